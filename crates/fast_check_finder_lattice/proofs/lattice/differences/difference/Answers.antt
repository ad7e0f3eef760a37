use Rattle.std.proofs.Common.{arith, ◌≡◌, sym, subst, length, vec_len, ℕ}
use Rattle.fast_check_finder_lattice.specs.Graph.{entry, listings, below_node, IsForest}
use Rattle.fast_check_finder_lattice.specs.Names.{paths}
use Rattle.fast_check_finder_lattice.proofs.Puts.{if_ok_from}
use Rattle.fast_check_finder_lattice.proofs.Built.{same_back}
use Rattle.fast_check_finder_lattice.proofs.Rest.{difference_respects}
use Rattle.fast_check_finder_lattice.proofs.Pruned.{forest_left, difference_left}
use Rattle.fast_check_finder_lattice.proofs.lattice.differences.difference.Goals as goal

pub copy_node-requires : goal.copy_node-requires
copy_node-requires c =
    let nodes = c.prune.new.nodes in
    let beside = rw c.as_slice.ensures.value at c.in_ok-places.ensures in
    let pruned = rw c.as_slice-2.ensures.value at c.in_ok-prune.ensures.pruned in
    let long : length nodes.items ≡ vec_len c.args.new.nodes = omega (arith, nodes.ok.0, c.prune.ensures.len) in
    let forest : IsForest (entry nodes.items) (length nodes.items) =
    subst (λ (size : ℕ). IsForest (entry nodes.items) size) (sym long)
    (forest_left (entry c.args.old.now) (entry c.args.new.nodes.items) c.in_ok-places.places.items beside (listings nodes.items) pruned
    (vec_len c.args.new.nodes) c.args.new.tree) in
    rw c.as_slice-3.ensures.value forest

pub returns : goal.returns
returns c =
    let beside = rw c.as_slice.ensures.value at c.in_ok-places.ensures in
    let pruned = rw c.as_slice-2.ensures.value at c.in_ok-prune.ensures.pruned in
    let nodes = c.prune.new.nodes.items in
    let rest = below_node (entry nodes) 0 in
    let old = below_node (entry c.args.old.now) 0 in
    if_ok_from c.copy_node.result (λ copy same. difference_respects old (paths c.args.new) rest (paths copy)
    (same_back (paths copy) rest same)
    (difference_left (entry c.args.old.now) (entry c.args.new.nodes.items) c.in_ok-places.places.items beside
    (listings nodes) pruned (vec_len c.args.new.nodes) c.args.new.tree)) (rw c.as_slice-3.ensures.value at c.copy_node.ensures)
