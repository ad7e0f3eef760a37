use Rattle.std.proofs.Common.{◌∙◌, ◌≡◌, sym, ap, ◌++◌, ◌∷◌, [], List}
use Rattle.std.specs.Map.{lookup, set_value}
use Rattle.std.proofs.lemmas.Map.Steps.{set_value_same}
use Rattle.fast_check_finder_lattice.specs.declared.lattice.imported_exports.ImportedExports.{ImportedExports}
use Rattle.url.specs.Parts.{Parts}
use Rattle.indexmap.proofs.CallerLemmas.{insert_entry-new}
use Rattle.fast_check_tables_packages.specs.declared.package.PackageNv.{PackageNv}
use Rattle.fast_check_finder_lattice.specs.Traces.{is_module}
use Rattle.fast_check_finder_lattice.proofs.Puts.{on_err}
use Rattle.fast_check_finder_lattice.proofs.Traced.{waits_new, waits_held}
use Rattle.fast_check_finder_lattice.proofs.module_maps.PendingTraces.add.Goals as goal

pub returns-in_err-add-clause-err : goal.returns-in_err-add-clause-err
returns-in_err-add-clause-err c =
    let es = c.self.inside.traces.entries in
    let test = is_module c.args.dep_specifier in
    let held = c.in-Some.waiting.now in
    on_err c.from_residual.result
    ((c.get_mut.follows.holds (held.0, c.add.new.self)).0 ∙
    (ap (λ (x : ImportedExports). set_value test es (held.0, x)) c.in_err-add.ensures.err ∙
    (set_value_same test es held (sym c.in-Some.ensures.value) ∙ c.self.view_is)))

pub returns-in-Some-clause-added : goal.returns-in-Some-clause-added
returns-in-Some-clause-added c =
    let held = c.in-Some.waiting.now in
    rw (← c.self.view_is)
    (waits_held c.self.inside.traces.entries _ c.args.package_nv c.args.dep_specifier c.args.exports_to_trace c.add.new.self
    c.in_ok-add.field-0 held c.in-Some.ensures.value c.in_ok-add.ensures.added (c.get_mut.follows.holds (held.0, c.add.new.self)).0)

pub returns-clause-added : goal.returns-clause-added
returns-clause-added c =
    let es = c.self.inside.traces.entries in
    let left = c.get_mut.follows.lender-at-none in
    let url = c.args.dep_specifier in
    let x : PackageNv × ImportedExports = (c.args.package_nv, c.args.exports_to_trace) in
    let same : left.entries ≡ es = ap (λ m. m.entries) c.get_mut.follows.holds-at-none in
    rw (← c.self.view_is)
    (waits_new es c.insert.new.self.entries c.args.package_nv url c.args.exports_to_trace c.in_default.ensures.value
    (c.in_ok-insert.ensures.entries ∙
    (insert_entry-new is_module left url x (ap (lookup (is_module url)) same ∙ sym c.in_default.ensures.value) ∙
    ap (λ (xs : List (Parts × (PackageNv × ImportedExports))). xs ++ (url, x) ∷ []) same)))
