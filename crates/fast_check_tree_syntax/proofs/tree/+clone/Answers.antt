use Rattle.std.proofs.Common.{arith, rules}
use Rattle.std.proofs.lemmas.Grind.{common_steps}
use Rattle.fast_check_tree_syntax.proofs.tree.+clone.Goals as goal

pub clone_all-returns-in_err-clone_tree : goal.clone_all-returns-in_err-clone_tree
clone_all-returns-in_err-clone_tree t c = search rules

pub clone_all-returns-in_err-push : goal.clone_all-returns-in_err-push
clone_all-returns-in_err-push t c = search rules

pub clone_all-returns : goal.clone_all-returns
clone_all-returns t c = grind (arith, common_steps)
