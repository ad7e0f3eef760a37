use Rattle.std.proofs.Common.{take}
use Rattle.fast_check_tables_packages.specs.Members.{IsMemberIndex}
use Rattle.fast_check_tables_packages.proofs.member_places.member_places.Given as goal

abbrev pub invariant-loop-place : goal.invariant-loop-place
invariant-loop-place l = IsMemberIndex (take l.place l.members) l.places
