use Rattle.std.proofs.Common.{ℕ, ◌≤◌, ◌<◌, ◌-◌, length}
use Rattle.fast_check_source_lexer.specs.Gaps.{IsLineEnd}
use Rattle.fast_check_source_lexer.proofs.gaps.past_rest.Given as goal

abbrev pub invariant-loop-end : goal.invariant-loop-end
invariant-loop-end l = (l.at ≤ l.end) × (l.end ≤ length l.z) × ((k : ℕ) → l.at ≤ k → k < l.end → IsLineEnd l.z k → ⊥)

abbrev pub decreases-loop-end : goal.decreases-loop-end
decreases-loop-end l = length l.initial.z - l.end
