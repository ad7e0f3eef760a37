use Rattle.std.proofs.Common.{◌≡◌}
use Rattle.serde_json.specs.View.{members_view}
use Rattle.serde_json.specs.Written.{members_have_float}
use Rattle.fast_check_read.proofs.float.+dropped.Given as goal

-- no float so far
abbrev pub invariant-members_had_float-loop-member : goal.invariant-members_had_float-loop-member
invariant-members_had_float-loop-member l = members_have_float (members_view l.fn.members.entries) ≡ members_have_float
    (members_view l.member-iterator)
