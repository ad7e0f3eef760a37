use Rattle.std.proofs.Common.{◌≡◌}
use Rattle.serde_json.specs.View.{items_view}
use Rattle.serde_json.specs.Written.{items_have_float}
use Rattle.fast_check_read.proofs.float.items_had_float.Given as goal

-- no float so far
abbrev pub invariant-loop-item : goal.invariant-loop-item
invariant-loop-item l = items_have_float (items_view l.fn.items.items) ≡ items_have_float (items_view l.item-iterator.rest.items)
