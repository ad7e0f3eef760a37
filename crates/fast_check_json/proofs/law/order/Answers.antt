use Rattle.fast_check_json.proofs.InOrder.{in_order}
use Rattle.fast_check_json.proofs.law.order.Goals as goal

pub returns : goal.returns
returns c = in_order
