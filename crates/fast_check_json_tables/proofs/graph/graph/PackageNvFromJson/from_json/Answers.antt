use Rattle.std.specs.Borrow.{Bor}
use Rattle.std.proofs.Common.{rules, ℕ, List, ◌≡◌, ◌∙◌, sym, ap, Some, None, option_map}
use Rattle.semver.specs.Identifiers.{parts_of}
use Rattle.serde_json.specs.View.{view}
use Rattle.fast_check_json_tables.specs.graph.Graph as graph
use Rattle.fast_check_read.proofs.Each.{some_of_ok, none_of_err}
use Rattle.fast_check_json_tables.proofs.graph.Given.{given_some, given_none, map_some, reads_none}
use Rattle.fast_check_json_tables.proofs.graph.Parted.{parted_once}
use Rattle.fast_check_json_tables.proofs.graph.graph.PackageNvFromJson.from_json.Goals as goal

pub returns-in_err-name : goal.returns-in_err-name
returns-in_err-name c =
    let text = c.in_ok-text.text.now in
    let parts : graph.parted text ≡ None =
    parted_once text c.rsplit_once.result c.rsplit_once.ensures.cases
    ∙ ap (option_map (λ (x : Bor (List ℕ) × Bor (List ℕ)). (x.0.now, x.1.now))) (none_of_err _ _ _ c.in_err-name.ensures.value) in
    let none : graph.package_of (view c.args.value.now) ≡ None =
    given_some graph.package_named (sym c.in_ok-text.ensures.text) ∙ given_none _ parts in
    reads_none _ _ _ none c.from_residual-in_err-name.ensures.0

pub returns-in_err-read_version : goal.returns-in_err-read_version
returns-in_err-read_version c =
    let text = c.in_ok-text.text.now in
    let parts : graph.parted text ≡ Some (c.in_ok-name.name.now, c.in_ok-name.version.now) =
    parted_once text c.rsplit_once.result c.rsplit_once.ensures.cases
    ∙ ap (option_map (λ (x : Bor (List ℕ) × Bor (List ℕ)). (x.0.now, x.1.now))) (some_of_ok _ _ _ c.in_ok-name.ensures.value) in
    let left : graph.package_of (view c.args.value.now)
    ≡ option_map (λ version. (c.in_ok-name.name.now, version)) (graph.version_of c.in_ok-name.version.now) =
    given_some graph.package_named (sym c.in_ok-text.ensures.text) ∙ given_some _ parts in
    rw left (search rules)

pub returns : goal.returns
returns c =
    let text = c.in_ok-text.text.now in
    let parts : graph.parted text ≡ Some (c.in_ok-name.name.now, c.in_ok-name.version.now) =
    parted_once text c.rsplit_once.result c.rsplit_once.ensures.cases
    ∙ ap (option_map (λ (x : Bor (List ℕ) × Bor (List ℕ)). (x.0.now, x.1.now))) (some_of_ok _ _ _ c.in_ok-name.ensures.value) in
    given_some graph.package_named (sym c.in_ok-text.ensures.text)
    ∙ (given_some _ parts
    ∙ (map_some _ c.in_ok-read_version.ensures
    ∙ ap (λ name. Some (name, parts_of c.in_ok-read_version.field-0)) (sym c.in_ok-from_str.ensures.ok)))
