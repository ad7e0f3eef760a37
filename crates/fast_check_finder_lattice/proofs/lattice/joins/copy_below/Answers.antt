use Rattle.std.proofs.Common.{sym, Some}
use Rattle.fast_check_finder_lattice.specs.Graph.{entry, reach, below_node, subset_of}
use Rattle.fast_check_finder_lattice.specs.Names.{paths}
use Rattle.fast_check_finder_lattice.proofs.Puts.{subset_along}
use Rattle.fast_check_finder_lattice.specs.EqualityProof.{all_is}
use Rattle.fast_check_finder_lattice.proofs.Built.{same_trans}
use Rattle.fast_check_finder_lattice.proofs.Copies.{subset_reach}
use Rattle.fast_check_finder_lattice.proofs.lattice.joins.copy_below.Goals as goal

pub returns-in-All : goal.returns-in-All
returns-in-All c = rw c.in-All.is (λ part p. sym (all_is (entry c.args.nodes.now) part p))

pub returns-in_ok-copy_node-in-Subset : goal.returns-in_ok-copy_node-in-Subset
returns-in_ok-copy_node-in-Subset c =
    let g = entry c.args.nodes.now in
    let copy = c.in_ok-copy_node-in-Subset.field-0 in
    rw c.in-Subset.is (same_trans (subset_of (paths copy)) (subset_of (below_node g c.in-Subset.no.0)) (reach g (Some _))
    (subset_along (paths copy) (below_node g c.in-Subset.no.0) c.in_ok-copy_node-in-Subset.ensures)
    (subset_reach g c.in-Subset.no))
