use Rattle.std.proofs.Common.{◌≡◌, take, length}
use Rattle.fast_check_tree_syntax.proofs.tree.+same.Given as goal

abbrev pub invariant-same_all-loop-x : goal.invariant-same_all-loop-x
invariant-same_all-loop-x l = take (length l.yielded) l.a ≡ take (length l.yielded) l.b
