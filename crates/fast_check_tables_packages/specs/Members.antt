-- Members of a workspace: which one a package is, and an index of them.
use Rattle.std.specs.Prelude.{◌≡◌, ℕ, Bool, true, ◌&&◌, List, map, nat_eq, Option, Some, None, is_some, is_none}
use Rattle.std.specs.Prelude.{string_bytes}
use Rattle.std.specs.BTreeMap.{get}
use Rattle.std.specs.List.{find, starts_with}
use Rattle.std.specs.Ordering.{is_eq}
use Rattle.std.specs.Str.{bytes_eq}
use Rattle.semver.specs.Identifiers.{parts_of}
use Rattle.semver.specs.declared.Version.{Version}
use Rattle.url.specs.Parts.{serialize}
use Rattle.fast_check_tables_packages.specs.Package.{Nv, VersionParts, nv_of, nv_cmp, version_cmp, version_or_zero}
use Rattle.fast_check_tables_packages.specs.declared.package.PackageNv.{PackageNv}
use Rattle.fast_check_tables_packages.specs.declared.package.WorkspaceMember.{WorkspaceMember}
use Rattle.fast_check_tables_packages.specs.First.{first_place}
use Rattle.fast_check_tables_packages.specs.Packages.{package_cmp}
use Rattle.fast_check_tables_packages.specs.Texts.{place_of, IsTextIndex}
use Rattle.fast_check_tables_packages.specs.declared.member_places.MemberPlaces.{MemberPlaces}
use Rattle.fast_check_tables_packages.specs.declared.texts.TextIndex.{TextIndex}

-- the version of a member is absent, or equal
abbrev pub has_version : VersionParts → Option Version → Bool
has_version v None = true
has_version v (Some w) = is_eq (version_cmp v (parts_of w))

abbrev pub is_member : Nv → WorkspaceMember → Bool
is_member nv m = bytes_eq nv.0 (string_bytes m.name) && has_version nv.1 m.version

-- the first member of the workspace that the package is
abbrev pub member_named : List WorkspaceMember → Nv → Option WorkspaceMember
member_named members nv = find (is_member nv) members

-- the first member whose base begins the text
abbrev pub member_of : List WorkspaceMember → List ℕ → Option WorkspaceMember
member_of members t = find (λ m. starts_with nat_eq t (serialize m.base)) members

-- its place
abbrev pub place_around : List WorkspaceMember → List ℕ → Option ℕ
place_around members t = first_place (λ m. starts_with nat_eq t (serialize m.base)) members

-- the name and version of a member
abbrev pub member_nv : WorkspaceMember → Nv
member_nv m = (string_bytes m.name, version_or_zero m.version)

-- a member without version, by its name
abbrev pub is_of_name : List ℕ → WorkspaceMember → Bool
is_of_name name m = is_none m.version && bytes_eq name (string_bytes m.name)

-- a member with a version, by both
abbrev pub is_of_package : Nv → WorkspaceMember → Bool
is_of_package nv m = is_some m.version && is_eq (nv_cmp nv (member_nv m))

-- it has the first place of each name without version, and of each name and version
pub record IsMemberIndex (members : List WorkspaceMember) (places : MemberPlaces) : Type 0 where
  pub names : (name : List ℕ) → place_of name places.by_name ≡ first_place (is_of_name name) members
  pub packages : (nv : PackageNv) → get package_cmp places.by_package nv ≡ first_place
      (is_of_package (nv_of nv)) members

-- the texts of their bases
abbrev pub bases_of : List WorkspaceMember → List (List ℕ)
bases_of members = map (λ m. serialize m.base) members

-- two indexes of the same members
pub record AreMembersIndexed (members : List WorkspaceMember) (places : MemberPlaces) (texts : TextIndex) : Type 0 where
  pub nvs : IsMemberIndex members places
  pub bases : IsTextIndex (bases_of members) texts
