use Rattle.std.proofs.Common.{◌≤◌, ◌-◌, length}
use Rattle.fast_check_source_lexer.proofs.bytes.past_rest.Given as goal

abbrev pub invariant-loop-next : goal.invariant-loop-next
invariant-loop-next l = (l.at ≤ l.end) × (l.end ≤ length l.z)

abbrev pub decreases-loop-next : goal.decreases-loop-next
decreases-loop-next l = length l.initial.z - l.end
