use Rattle.std.proofs.Common.{◌≡◌, map, take}
use Rattle.fast_check_tables_packages.specs.Package.{nv_of}
use Rattle.fast_check_tables_packages.specs.Members.{member_nv}
use Rattle.fast_check_tables_packages.proofs.members.packages_of.Given as goal

abbrev pub invariant-loop-member : goal.invariant-loop-member
invariant-loop-member l = map (λ p. nv_of p.value) l.packages.items ≡ map member_nv (take l.member-index l.members)
