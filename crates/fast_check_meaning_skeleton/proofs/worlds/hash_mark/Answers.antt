use Rattle.fast_check_meaning_skeleton.proofs.HashMarked.{hash_marked}
use Rattle.fast_check_meaning_skeleton.proofs.worlds.hash_mark.Goals as goal

pub returns : goal.returns
returns c = record { law = hash_marked c.args.class.now }
