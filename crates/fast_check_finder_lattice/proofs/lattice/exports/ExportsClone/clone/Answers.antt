use Rattle.fast_check_finder_lattice.specs.Names.{paths}
use Rattle.fast_check_finder_lattice.proofs.Puts.{subset_along}
use Rattle.fast_check_finder_lattice.proofs.lattice.exports.ExportsClone.clone.Goals as goal

pub returns-in_ok-clone-in-Subset : goal.returns-in_ok-clone-in-Subset
returns-in_ok-clone-in-Subset c = record {
  cases = rw c.in-Subset.is
      (subset_along (paths c.in_ok-clone-in-Subset.field-0) (paths c.in-Subset.names) c.in_ok-clone-in-Subset.ensures.cases);
}
