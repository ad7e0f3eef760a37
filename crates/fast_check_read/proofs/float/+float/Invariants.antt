use Rattle.std.proofs.Common.{◌≡◌, drop}
use Rattle.serde_json.specs.View.{items_view, members_view}
use Rattle.serde_json.specs.Written.{items_have_float, members_have_float}
use Rattle.fast_check_read.proofs.float.+float.Given as goal

-- no float so far
abbrev pub invariant-items_with_float-loop-item : goal.invariant-items_with_float-loop-item
invariant-items_with_float-loop-item l = items_have_float (items_view l.item-items) ≡ items_have_float
    (items_view (drop l.item-index l.item-items))

abbrev pub invariant-members_with_float-loop-member : goal.invariant-members_with_float-loop-member
invariant-members_with_float-loop-member l = members_have_float (members_view l.members.entries) ≡ members_have_float
    (members_view l.member-iterator)
