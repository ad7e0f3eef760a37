use Rattle.std.proofs.Common.{◌≡◌, length}
use Rattle.fast_check_finder_lattice.specs.Numbers.{AreBehind}
use Rattle.fast_check_finder_lattice.proofs.lattice.numbers.numbers_behind.Given as goal

abbrev pub invariant-loop-place : goal.invariant-loop-place
invariant-loop-place l = (length l.numbers.items ≡ l.place) × AreBehind l.first l.place l.numbers.items
