use Rattle.std.proofs.Common.{◌≡◌, ℕ, take}
use Rattle.fast_check_finder_lattice.specs.Graph.{entry}
use Rattle.fast_check_finder_lattice.specs.Pruned.{under, place_at}
use Rattle.fast_check_finder_lattice.proofs.Beside.{noted}
use Rattle.fast_check_finder_lattice.proofs.lattice.differences.note_listed.Given as goal

abbrev pub invariant-loop-name : goal.invariant-loop-name
invariant-loop-name l = (k : ℕ) → place_at l.places.items k ≡
    noted (under (entry l.old) l.place) (take l.name-index l.name-items) k (place_at l.fn.places.items k)
