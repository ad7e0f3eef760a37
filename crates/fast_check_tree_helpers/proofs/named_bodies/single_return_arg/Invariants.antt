use Rattle.std.proofs.Common.{◌≡◌, drop}
use Rattle.fast_check_tree_helpers.specs.NamedBodies.{arg_of_last}
use Rattle.fast_check_tree_helpers.proofs.named_bodies.single_return_arg.Given as goal

abbrev pub invariant-loop-index : goal.invariant-loop-index
invariant-loop-index l = arg_of_last l.stmts ≡ arg_of_last (drop l.index l.stmts)
