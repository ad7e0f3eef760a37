use Rattle.fast_check_finder_lattice.specs.declared.lattice.named_subset.Exports.TheVariants.{All, Subset}
use Rattle.fast_check_finder_lattice.specs.EqualityProof.{same_below_decides}
use Rattle.fast_check_finder_lattice.proofs.lattice.equality.ExportsPartialEq.eq.Goals as goal

pub returns-in-All-Subset-clause-same : goal.returns-in-All-Subset-clause-same
returns-in-All-Subset-clause-same c =
    rw (c.in-All-Subset.is-0, c.in-All-Subset.is-1) (same_below_decides All (Subset c.in-All-Subset.field-0-1))

pub returns-in-Subset-Subset-clause-same : goal.returns-in-Subset-Subset-clause-same
returns-in-Subset-Subset-clause-same c = rw (c.in-Subset-Subset.is-0, c.in-Subset-Subset.is-1, c.eq.ensures)
    (same_below_decides (Subset c.in-Subset-Subset.a) (Subset c.in-Subset-Subset.b))

pub returns-in-Subset-All-clause-same : goal.returns-in-Subset-All-clause-same
returns-in-Subset-All-clause-same c =
    rw (c.in-Subset-All.is-0, c.in-Subset-All.is-1) (same_below_decides (Subset c.in-Subset-All.field-0-0) All)
