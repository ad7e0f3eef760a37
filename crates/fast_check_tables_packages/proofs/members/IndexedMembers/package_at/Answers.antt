use Rattle.fast_check_tables_packages.specs.Package.{nv_of}
use Rattle.fast_check_tables_packages.specs.Members.{member_nv}
use Rattle.fast_check_tables_packages.proofs.MembersFound.{same_at}
use Rattle.fast_check_tables_packages.proofs.members.IndexedMembers.package_at.Goals as goal

pub returns : goal.returns
returns c =
    let self = c.args.self.now in
    same_at (λ p. nv_of p.value) member_nv self.packages.items self.members.now c.args.place c.get.result self.packages_are
    (rw c.deref.ensures.value at c.get.ensures.lookup)
