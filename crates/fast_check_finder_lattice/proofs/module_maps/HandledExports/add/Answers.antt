use Rattle.std.proofs.Common.{◌∙◌, ◌≡◌, sym, ap, ◌++◌, ◌∷◌, [], List}
use Rattle.std.specs.Map.{lookup, set_value}
use Rattle.std.proofs.lemmas.Map.Steps.{set_value_same}
use Rattle.std.proofs.lemmas.Result.{IfOk-weaker}
use Rattle.url.specs.Parts.{Parts}
use Rattle.indexmap.specs.IndexMap.{insert_entry}
use Rattle.indexmap.proofs.CallerLemmas.{insert_entry-new}
use Rattle.fast_check_finder_lattice.specs.declared.lattice.imported_exports.ImportedExports.{ImportedExports}
use Rattle.fast_check_finder_lattice.specs.Traces.{is_module}
use Rattle.fast_check_finder_lattice.proofs.Puts.{on_err_from}
use Rattle.fast_check_finder_lattice.proofs.Traced.{handles_new, handles_held}
use Rattle.fast_check_finder_lattice.proofs.module_maps.HandledExports.add.Goals as goal

pub returns-in-Some-clause-added : goal.returns-in-Some-clause-added
returns-in-Some-clause-added c =
    IfOk-weaker c.add.result _ _
    (λ answer added. rw (← c.self.view_is)
    (handles_held c.self.inside.modules.entries _ c.args.dep_specifier.now c.args.traced_exports c.in-Some.held.now c.add.new.self answer
    c.in-Some.ensures.value added (c.get_mut.follows.holds c.add.new.self).0))
    c.add.ensures.added

pub returns-in-Some-clause-err : goal.returns-in-Some-clause-err
returns-in-Some-clause-err c =
    let es = c.self.inside.modules.entries in
    let test = is_module c.args.dep_specifier.now in
    on_err_from c.add.result
    (λ (e : c.add.new.self ≡ c.in-Some.held.now). (c.get_mut.follows.holds c.add.new.self).0 ∙
    (ap (set_value test es) e ∙ (set_value_same test es c.in-Some.held.now (sym c.in-Some.ensures.value) ∙ c.self.view_is)))
    c.add.ensures.err

pub returns-clause-added : goal.returns-clause-added
returns-clause-added c =
    let es = c.self.inside.modules.entries in
    let left = c.get_mut.follows.lender-at-none in
    let url = c.args.dep_specifier.now in
    let copy = c.in_ok-copy.copy in
    let same : left.entries ≡ es = ap (λ m. m.entries) c.get_mut.follows.holds-at-none in
    rw (← c.self.view_is)
    (handles_new es c.insert.new.self.entries url c.args.traced_exports copy c.in_default.ensures.value c.in_ok-copy.ensures.cases
    (c.in_ok-insert.ensures.entries ∙ (ap (λ (u : Parts). insert_entry is_module left.entries u copy) c.in_ok-clone.ensures.cases ∙
    (insert_entry-new is_module left url copy (ap (lookup (is_module url)) same ∙ sym c.in_default.ensures.value) ∙
    ap (λ (xs : List (Parts × ImportedExports)). xs ++ (url, copy) ∷ []) same))))
