-- Inner: no contract of a public call cites what stands here.
-- The members that an index is of.
use Rattle.std.specs.Prelude.{List}
use Rattle.fast_check_tables_packages.specs.declared.package.WorkspaceMember.{WorkspaceMember}
use Rattle.fast_check_tables_packages.specs.declared.members.IndexedMembers.{IndexedMembers}

abbrev pub members_in : IndexedMembers → List WorkspaceMember
members_in indexed = indexed.members.now
