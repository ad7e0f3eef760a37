use Rattle.std.proofs.Common.{◌≡◌, ◌++◌, take, drop}
use Rattle.fast_check_finder_lattice.specs.Numbers.{number, moved_entries}
use Rattle.fast_check_finder_lattice.proofs.lattice.numbers.renumber_names.Given as goal

abbrev pub invariant-loop-i : goal.invariant-loop-i
invariant-loop-i l = l.names.items ≡ moved_entries (number l.numbers) (take l.i l.fn.names.items) ++ drop l.i l.fn.names.items
