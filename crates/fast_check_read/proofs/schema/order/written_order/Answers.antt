use Rattle.fast_check_read.proofs.schema.Orders.{now_at, row_of_kind}
use Rattle.fast_check_read.proofs.schema.order.written_order.Goals as goal

pub returns : goal.returns
returns c = simp now_at (row_of_kind c.args.kind)
