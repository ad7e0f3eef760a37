use Rattle.std.proofs.Common.{◌≤◌}
use Rattle.fast_check_tables_packages.specs.Texts.{common}
use Rattle.fast_check_tables_packages.proofs.texts.common_length.Given as goal

abbrev pub invariant-loop-place : goal.invariant-loop-place
invariant-loop-place l = l.place ≤ common l.text l.other
