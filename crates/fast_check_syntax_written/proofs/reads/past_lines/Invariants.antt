use Rattle.std.proofs.Common.{◌≤◌, ℕ, length, drop}
use Rattle.fast_check_syntax_table.specs.Spelled.{ReadsLines}
use Rattle.fast_check_syntax_written.proofs.reads.past_lines.Given as goal

abbrev pub invariant-loop-c : goal.invariant-loop-c
invariant-loop-c l = record {
  within : l.end ≤ length l.z;
  left : (b : ℕ) → ReadsLines l.z (drop l.c-index l.s) l.end b → ReadsLines l.z l.s l.at b;
}
