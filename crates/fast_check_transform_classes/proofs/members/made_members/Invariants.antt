use Rattle.std.proofs.Common.{◌≡◌, ◌++◌, take, map}
use Rattle.std.specs.Prelude.{flat_map}
use Rattle.fast_check_tree_syntax.specs.Part.{seen}
use Rattle.fast_check_meaning_signatures.specs.Classes.{declared_by_params}
use Rattle.fast_check_transform_classes.proofs.members.made_members.Given as goal

abbrev pub invariant-loop-member : goal.invariant-loop-member
invariant-loop-member l = l.items ≡ l.initial.items ++ flat_map (λ m. declared_by_params l.unresolved m)
    (map seen (take l.member-index l.kept))
