use Rattle.fast_check_finder_ranges.proofs.entries.Ordered.{are_in_order}
use Rattle.fast_check_finder_ranges.proofs.entries.order.entry_order.Goals as goal

pub returns : goal.returns
returns c = are_in_order
