use Rattle.std.proofs.Common.{◌≤◌, ◌-◌, length}
use Rattle.fast_check_source_lexer.proofs.literals.past_template.Given as goal

abbrev pub invariant-loop-end : goal.invariant-loop-end
invariant-loop-end l = (l.at ≤ l.end) × (l.end ≤ length l.z)

abbrev pub decreases-loop-end : goal.decreases-loop-end
decreases-loop-end l = length l.initial.z - l.end
