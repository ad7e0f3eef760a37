use Rattle.fast_check_tables_packages.specs.Package.{nv_of}
use Rattle.fast_check_tables_packages.specs.Members.{is_member}
use Rattle.fast_check_tables_packages.proofs.MembersFound.{none_there, some_there}
use Rattle.fast_check_tables_packages.proofs.members.IndexedMembers.named.Goals as goal

pub returns-in_err-place : goal.returns-in_err-place
returns-in_err-place c =
    let members = c.args.self.now.members.now in
    rw (c.from_residual.ensures)
    (none_there (is_member (nv_of c.args.nv.now)) members c.first.result
    (c.first.ensures members c.args.self.now.indexed.nvs) c.in_err-place.was)

pub returns : goal.returns
returns c =
    let members = c.args.self.now.members.now in
    some_there (is_member (nv_of c.args.nv.now)) members c.first.result c.in_ok-place.place c.get.result
    (c.first.ensures members c.args.self.now.indexed.nvs) c.in_ok-place.was c.get.ensures.lookup
