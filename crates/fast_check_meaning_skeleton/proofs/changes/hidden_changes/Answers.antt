use Rattle.fast_check_meaning_skeleton.proofs.HiddenChanges.{hides_changes}
use Rattle.fast_check_meaning_skeleton.proofs.HiddenRules.{hides_by_rules}
use Rattle.fast_check_meaning_skeleton.proofs.changes.hidden_changes.Goals as goal

pub returns : goal.returns
returns c = record { law = hides_changes; rules = hides_by_rules }
