use Rattle.fast_check_meaning_skeleton.proofs.HiddenItems.{hides_items}
use Rattle.fast_check_meaning_skeleton.proofs.worlds.hidden_items.Goals as goal

pub returns : goal.returns
returns c = record { law = hides_items }
