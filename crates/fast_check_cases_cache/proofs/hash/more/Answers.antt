use Rattle.std.proofs.Common.{refl}
use Rattle.fast_check_cases_cache.specs.Hash.{hash_more}
use Rattle.fast_check_cases_cache.proofs.hash.more.Goals as goal

pub returns : goal.returns
unfolding hash_more
returns c = refl
