use Rattle.std.proofs.Common.{◌≤◌, ◌<◌, ◌-◌, ℕ, length, slice_index}
use Rattle.fast_check_syntax_table.specs.Spelled.{IsEscapedPart}
use Rattle.fast_check_syntax_written.proofs.reads.past_parts.Given as goal

abbrev pub invariant-loop-end : goal.invariant-loop-end
invariant-loop-end l = record {
  begins : l.at ≤ l.end;
  within : l.end ≤ length l.z;
  parts : (k : ℕ) → l.at ≤ k → k < l.end → IsEscapedPart (slice_index l.z k);
}

abbrev pub decreases-loop-end : goal.decreases-loop-end
decreases-loop-end l = length l.z - l.end
