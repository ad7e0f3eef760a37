use Rattle.std.proofs.Common.{◌≡◌, ◌+◌, ◌*◌, map, drop, take, true}
use Rattle.std.specs.List.{list_all}
use Rattle.fast_check_tree_syntax.specs.Height.{height, highest}
use Rattle.fast_check_source_walks.specs.Ranges.{is_nested, follow}
use Rattle.fast_check_source_walks.proofs.nested.+nested.Given as goal

abbrev pub decreases-is_nested : goal.decreases-is_nested
decreases-is_nested l = 4 * height l.tree.now

abbrev pub decreases-are_inside : goal.decreases-are_inside
decreases-are_inside l = 4 * highest (map height l.parts.now) + 3

abbrev pub decreases-are_in_class : goal.decreases-are_in_class
decreases-are_in_class l = 4 * highest (map height l.parts.now) + 2

abbrev pub decreases-are_nested : goal.decreases-are_nested
decreases-are_nested l = 4 * highest (map height l.trees.now) + 1

abbrev pub decreases-are_in_order : goal.decreases-are_in_order
decreases-are_in_order l = 4 * highest (map height l.trees.now) + 1

abbrev pub invariant-are_nested-loop-tree : goal.invariant-are_nested-loop-tree
invariant-are_nested-loop-tree l = list_all (λ test. test l.low l.high) (map is_nested (drop l.tree-index l.trees)) ≡
    list_all (λ test. test l.low l.high) (map is_nested l.trees)

abbrev pub invariant-are_in_order-loop-tree : goal.invariant-are_in_order-loop-tree
invariant-are_in_order-loop-tree l = follow (drop l.tree-index l.trees) (map is_nested (drop l.tree-index l.trees)) l.from l.high ≡
    follow l.trees (map is_nested l.trees) l.low l.high
