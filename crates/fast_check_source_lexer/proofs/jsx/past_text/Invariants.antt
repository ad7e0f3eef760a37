use Rattle.std.proofs.Common.{ℕ, ◌≤◌, ◌<◌, ◌≢◌, ◌-◌, length, get_or}
use Rattle.fast_check_source_lexer.proofs.jsx.past_text.Given as goal

abbrev pub invariant-loop-end : goal.invariant-loop-end
invariant-loop-end l = (l.at ≤ l.end) × (l.end ≤ length l.z) × ((k : ℕ) → l.at ≤ k → k < l.end →
    (get_or l.z k 0 ≢ 60) × (get_or l.z k 0 ≢ 62) × (get_or l.z k 0 ≢ 123) × (get_or l.z k 0 ≢ 125))

abbrev pub decreases-loop-end : goal.decreases-loop-end
decreases-loop-end l = length l.initial.z - l.end
