use Rattle.std.proofs.Common.{◌≡◌, take, not}
use Rattle.std.specs.List.{filter}
use Rattle.fast_check_meaning_signatures.specs.Members.{is_private_computed}
use Rattle.fast_check_transform_classes.proofs.classes.ambient_members.Given as goal

abbrev pub invariant-loop-member : goal.invariant-loop-member
invariant-loop-member l = l.items ≡ filter (λ m. not (is_private_computed m)) (take l.member-index l.member-items)
