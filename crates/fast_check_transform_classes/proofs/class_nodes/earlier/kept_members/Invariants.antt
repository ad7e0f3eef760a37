use Rattle.std.proofs.Common.{◌≡◌, List, map, drop, ◌++◌}
use Rattle.fast_check_tree_syntax.specs.Part.{seen}
use Rattle.fast_check_tree_syntax.specs.declared.tree.Tree.{Tree}
use Rattle.fast_check_meaning_signatures.specs.Members.{each_behind, if_kept, kept_members}
use Rattle.fast_check_transform_classes.specs.class_nodes.Known.{Knows}
use Rattle.fast_check_transform_classes.proofs.class_nodes.earlier.kept_members.Given as goal

-- some earlier members, which are known, and behind what stays of them what stays of the others
abbrev pub invariant-loop-member : goal.invariant-loop-member
invariant-loop-member l =
    (before : List Tree) × (Knows l.earlier before × (kept_members l.members ≡ map seen l.kept.items ++
    each_behind if_kept before (drop l.member-index l.members)))
