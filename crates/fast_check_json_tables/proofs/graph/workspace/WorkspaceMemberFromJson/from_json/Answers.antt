use Rattle.std.proofs.Common.{◌∙◌, [], ap, sym, List, ℕ, codes, Option, option_map}
use Rattle.serde_json.specs.Find.{as_str}
use Rattle.serde_json.specs.View.{view}
use Rattle.url.specs.Parts.{Parts}
use Rattle.fast_check_tables_packages.specs.Package.{VersionParts}
use Rattle.fast_check_json_tables.specs.graph.Reads.{needed, optional, member_or, url_of}
use Rattle.fast_check_json_tables.specs.graph.Graph.{Exports, seen_exports, package_exports_of, version_text_of}
use Rattle.fast_check_json_tables.specs.graph.Workspace.{SeenMember}
use Rattle.fast_check_json_tables.proofs.graph.Gathering.{both_reads, given_four, reads_as, reads_passed}
use Rattle.fast_check_json_tables.proofs.graph.Given.{map_some}
use Rattle.fast_check_json_tables.proofs.graph.workspace.WorkspaceMemberFromJson.from_json.Goals as goal

abbrev made : Parts → List ℕ → Option VersionParts → Exports → SeenMember
made base name version exports = record {
  base = base;
  name = name;
  version = version;
  exports = exports;
}

pub returns-in_err-base : goal.returns-in_err-base
returns-in_err-base c =
    let value = view c.args.value.now in
    let names = both_reads _ _ _ _ _ _ _ c.both-names.ensures c.read_member.ensures c.read_member-2.ensures in
    let none = ap (λ es. member_or (seen_exports es) package_exports_of (codes "exports") value) (sym c.new.ensures.empty) in
    let exports = reads_as _ _ _ _ none c.read_member_or.ensures in
    let rest = both_reads _ _ _ _ _ _ _ c.both-rest.ensures c.read_option.ensures exports in
    let failed = both_reads _ _ _ _ _ _ _ c.in_err-base.ensures names rest in
    reads_passed _ _ _ c.in_err-base.field-0.0 c.from_residual.ensures.1 (λ bad.
    given_four (needed url_of (codes "base") value) (needed as_str (codes "name") value) (optional version_text_of (codes "version") value)
    (member_or [] package_exports_of (codes "exports") value) made
    ∙ ap (option_map _) (failed bad))

pub returns : goal.returns
returns c =
    let value = view c.args.value.now in
    let names = both_reads _ _ _ _ _ _ _ c.both-names.ensures c.read_member.ensures c.read_member-2.ensures in
    let none = ap (λ es. member_or (seen_exports es) package_exports_of (codes "exports") value) (sym c.new.ensures.empty) in
    let exports = reads_as _ _ _ _ none c.read_member_or.ensures in
    let rest = both_reads _ _ _ _ _ _ _ c.both-rest.ensures c.read_option.ensures exports in
    given_four (needed url_of (codes "base") value) (needed as_str (codes "name") value) (optional version_text_of (codes "version") value)
    (member_or [] package_exports_of (codes "exports") value) made
    ∙ map_some _ (both_reads _ _ _ _ _ _ _ c.in_ok-base.ensures names rest)
