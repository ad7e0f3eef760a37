use Rattle.fast_check_finder_lattice.specs.Names.{paths, nothing}
use Rattle.fast_check_finder_lattice.proofs.Puts.{subset_along}
use Rattle.fast_check_finder_lattice.proofs.lattice.named_subset.Exports.subset.Goals as goal

pub returns : goal.returns
returns c = subset_along (paths c.default.result) nothing c.default.ensures
