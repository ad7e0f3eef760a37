use Rattle.std.proofs.Common.{refl}
use Rattle.fast_check_finder_lattice.proofs.Sorted.{gap_lacks, gap_seen}
use Rattle.fast_check_finder_lattice.proofs.lattice.nodes.place_of.Goals as goal

pub search-requires : goal.search-requires
search-requires c = rw (c.as_slice.ensures.value, c.as_slice-2.ensures.value) c.args.node.now.order

pub returns-in-Err : goal.returns-in-Err
returns-in-Err c =
    let node = c.args.node.now in
    gap_lacks node.names.items node.sorted.items c.args.name.now c.in-Err.field-0 node.order
    (gap_seen node.names.items c.as_slice.result.now node.sorted.items c.as_slice-2.result.now c.args.name.now c.args.name.now
    c.in-Err.field-0 c.as_slice.ensures.value c.as_slice-2.ensures.value refl c.in-Err.ensures)
