use Rattle.std.proofs.Common.{◌≡◌, List, [], drop}
use Rattle.fast_check_tree_syntax.specs.declared.tree.Tree.{Tree}
use Rattle.fast_check_transform_classes.specs.class_nodes.Known.{Knows}
use Rattle.fast_check_transform_imports.specs.skeleton.KeptComments.{without_all_leading}
use Rattle.fast_check_transform_statements.proofs.transform_declarations.ClassCases.{starts_left}
use Rattle.fast_check_transform_statements.proofs.transform_declarations.classes.remove_before_members.Given as goal

-- some earlier members, which are known, and behind them the same is left to remove
abbrev pub invariant-loop-member : goal.invariant-loop-member
invariant-loop-member l =
    (before : List Tree) × (Knows l.earlier before × (without_all_leading (starts_left [] l.member-items) l.initial.comments ≡
    without_all_leading (starts_left before (drop l.member-index l.member-items)) l.comments))
