use Rattle.std.proofs.Common.{ap, ◌∙◌}
use Rattle.fast_check_finder_lattice.specs.Order.{names_in}
use Rattle.fast_check_finder_lattice.specs.Graph.{moved_below}
use Rattle.fast_check_finder_lattice.specs.Numbers.{number}
use Rattle.fast_check_finder_lattice.proofs.Lists.{mapped_names}
use Rattle.fast_check_finder_lattice.proofs.Sorted.{order_along}
use Rattle.fast_check_finder_lattice.proofs.lattice.numbers.renumber_node.Goals as goal

pub invariant_of-node : goal.invariant_of-node
invariant_of-node c =
    let node = c.args.node.now in
    record {
      order = order_along (names_in c.renumber_names.new.names.items) (names_in node.names.items) node.sorted.items
          (ap names_in c.renumber_names.ensures ∙ mapped_names (moved_below (number c.args.numbers.now)) node.names.items) node.order;
    }
