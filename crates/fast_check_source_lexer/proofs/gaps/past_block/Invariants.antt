use Rattle.std.proofs.Common.{ℕ, ◌≤◌, ◌<◌, ◌≡◌, ◌≢◌, ◌+◌, ◌-◌, ◌↔◌, length, IsTrue, get_or}
use Rattle.fast_check_source_lexer.specs.Gaps.{HoldsLineEnd}
use Rattle.fast_check_source_lexer.proofs.gaps.past_block.Given as goal

abbrev pub invariant-loop-end : goal.invariant-loop-end
invariant-loop-end l = (l.at + 2 ≤ l.end) × (l.end ≤ length l.z) × ((k : ℕ) → l.at + 2 ≤ k → k < l.end → get_or l.z k 0 ≡ 42 → get_or l.z (k + 1) 0 ≢ 47)
    × (IsTrue l.newline ↔ HoldsLineEnd l.z l.at l.end)

abbrev pub decreases-loop-end : goal.decreases-loop-end
decreases-loop-end l = length l.initial.z - l.end
