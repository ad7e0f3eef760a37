use Rattle.std.specs.Cmp.{both_ways}
use Rattle.fast_check_tree_syntax.specs.TreeEquality.{same_trees, same_trees-decides}
use Rattle.fast_check_tree_syntax.proofs.tree.TreePartialEq.eq.Goals as goal

pub returns-clause-value : goal.returns-clause-value
returns-clause-value c =
    let a = c.args.self.now in
    let b = c.args.other.now in
    both_ways c.same_tree.result (same_trees a b)
    (λ t. (same_trees-decides a b).1 (c.same_tree.ensures.0 t))
    (λ t. c.same_tree.ensures.1 ((same_trees-decides a b).0 t))
