-- The member of a workspace that a JSON value stands for.
use Rattle.std.specs.Prelude.{ℕ, List, [], codes, Option, option_map, string_bytes}
use Rattle.semver.specs.Identifiers.{parts_of}
use Rattle.serde_json.specs.Data.{Data}
use Rattle.serde_json.specs.Find.{as_str}
use Rattle.url.specs.Parts.{Parts}
use Rattle.fast_check_tables_packages.specs.declared.package.WorkspaceMember.{WorkspaceMember}
use Rattle.fast_check_tables_packages.specs.Package.{VersionParts}
use Rattle.fast_check_json_tables.specs.graph.Reads.{given, needed, optional, member_or, url_of}
use Rattle.fast_check_json_tables.specs.graph.Graph.{Exports, seen_exports, version_text_of, package_exports_of}

-- what contracts see of a member: where its export texts are joined to, its name, its version if it has one, and its
-- export texts
pub record SeenMember : Type 0 where
  pub base : Parts
  pub name : List ℕ
  pub version : Option VersionParts
  pub exports : Exports

abbrev pub workspace_member : WorkspaceMember → SeenMember
workspace_member m = record {
  base = m.base;
  name = string_bytes m.name;
  version = option_map parts_of m.version;
  exports = seen_exports m.exports.entries;
}

-- an object of the members base, name, version and exports: without the last two it has no version, and no exports
abbrev pub workspace_member_of : Data → Option SeenMember
workspace_member_of value =
    given (needed url_of (codes "base") value) (λ base.
    given (needed as_str (codes "name") value) (λ name.
    given (optional version_text_of (codes "version") value) (λ version.
    option_map (λ exports. record {
      base = base;
      name = name;
      version = version;
      exports = exports;
    }) (member_or [] package_exports_of (codes "exports") value))))
