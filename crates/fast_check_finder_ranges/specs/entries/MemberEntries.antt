-- Inner: no contract of a public call cites what stands here.
-- The entry points of members, as they are kept from one package to the next.
use Rattle.std.specs.Prelude.{◌≡◌, List, Some, String, string_bytes}
use Rattle.std.specs.BTreeMap.{get}
use Rattle.std.specs.BTreeSet.{BTreeSet}
use Rattle.std.specs.List.{find}
use Rattle.std.specs.String.{string_cmp}
use Rattle.std.specs.declared.alloc.Global.{Global}
use Rattle.std.specs.declared.rc.Rc.{Rc}
use Rattle.url.specs.Parts.{Parts}
use Rattle.fast_check_tables_packages.specs.declared.package.WorkspaceMember.{WorkspaceMember}
use Rattle.fast_check_tables_packages.specs.Members.{is_of_name}
use Rattle.fast_check_finder_ranges.specs.entries.Entries.{member_exports, entrance_by, entered}
use Rattle.fast_check_finder_ranges.specs.declared.entries.members.MemberEntries.{MemberEntries}

-- under a name the entry points of the first member of this name that has no version
abbrev pub AreMemberEntries : List WorkspaceMember → MemberEntries → Type 0
AreMemberEntries members entries = (name : String Global) (urls : Rc (BTreeSet Parts) Global) →
    get string_cmp entries.by_name name ≡ Some urls → (m : WorkspaceMember) →
    find (is_of_name (string_bytes name)) members ≡ Some m →
    entrance_by m.base (Some (member_exports m)) ≡ entered urls.value.keys
