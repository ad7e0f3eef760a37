use Rattle.std.proofs.Common.{◌≡◌, fold, map}
use Rattle.url.specs.Parts.{serialize}
use Rattle.fast_check_cases_cache.specs.Hash.{hash_text}
use Rattle.fast_check_cases_cache.proofs.hash.package_hash.Given as goal

abbrev pub invariant-loop-url : goal.invariant-loop-url
invariant-loop-url l = fold hash_text l.hash (map serialize l.url-iterator) ≡ fold hash_text l.initial.hash
    (map serialize l.entrypoints.keys)
