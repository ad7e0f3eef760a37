use Rattle.std.proofs.Common.{rules}
use Rattle.fast_check_finder_lattice.proofs.Sorted.{order_from_sort}
use Rattle.fast_check_finder_lattice.proofs.lattice.order.sort_places.Goals as goal

pub returns : goal.returns
returns c = order_from_sort c.args.names.now c.in_ok-places.places.items c.sort_by.new.self.items c.requires
    (c.in_ok-places.ensures)
    c.sort_by.ensures.permutation c.in_ok-sort_by.ensures.sorted (λ a r q k. search rules)
