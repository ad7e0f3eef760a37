use Rattle.std.proofs.Common.{◌≤◌, ◌-◌, ◌↔◌, length, IsTrue}
use Rattle.fast_check_source_lexer.specs.Gaps.{IsGap, HoldsLineEnd}
use Rattle.fast_check_source_lexer.proofs.gaps.past_gap.Given as goal

abbrev pub invariant-loop-end : goal.invariant-loop-end
invariant-loop-end l = (l.at ≤ l.end) × (l.end ≤ length l.z) × IsGap l.z l.at l.end × (IsTrue l.newline ↔ HoldsLineEnd l.z l.at l.end)

abbrev pub decreases-loop-end : goal.decreases-loop-end
decreases-loop-end l = length l.initial.z - l.end
