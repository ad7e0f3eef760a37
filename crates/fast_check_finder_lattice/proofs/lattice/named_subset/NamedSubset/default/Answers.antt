use Rattle.fast_check_finder_lattice.proofs.Puts.{nothing_listed}
use Rattle.fast_check_finder_lattice.proofs.lattice.named_subset.NamedSubset.default.Goals as goal

pub returns : goal.returns
returns c = nothing_listed c.new.result.items c.new.ensures.items
