use Rattle.std.proofs.Common.{map, subst, inl, Bor}
use mir.Syntax.{Dict}
use denote.Param.Table.{Entry}
use borrow.Pointer.Hide.{carry, carried_same}
use Rattle.fast_check_tables_packages.specs.Package.{nv_of}
use Rattle.fast_check_tables_packages.specs.declared.provider.JsrUrlProvider.{Ghosts}
use Rattle.fast_check_tables_packages.specs.declared.fault.BuildFault.TheVariants as faults
use Rattle.fast_check_build.specs.finder.Refusals.{IsRefusal}
use Rattle.fast_check_build.specs.Found.{known_of}
use Rattle.fast_check_build.specs.Build.{IsBuilt}
use Rattle.fast_check_program_commands.specs.build_command.Build.{known_by}
use Rattle.fast_check_program_commands.proofs.build_command.request.build_answers.Goals as goal
use Rattle.fast_check_program_commands.proofs.build_command.request.build_answers.OwnLists.{own-2, part-2-1, same-2-1}

-- what holds of the packages as they are lent holds of them
lent : (P : (j : Entry (λ X. Ghosts X) Dict) → Bor j.0.Denot → Type 0) (x : Bor (part-2-1.entry tt).0.Denot)
    → P (own-2.entry (inl tt)) (carry (λ X. Ghosts X) Dict (part-2-1.entry tt) (own-2.entry (inl tt)) same-2-1 x) → P (part-2-1.entry tt) x
lent P x h =
    subst (λ (X : Type 0). X) (carried_same (λ X. Ghosts X) Dict (part-2-1.entry tt) (own-2.entry (inl tt)) same-2-1 (Type 0) P x) h

pub returns-in-Ok-clause-built : goal.returns-in-Ok-clause-built
returns-in-Ok-clause-built c =
    let a = c.args in
    let first = a.options.now.should_error_on_first_diagnostic in
    let k = known_by a.graph.now a.root_symbol.now a.options.now.workspace_members.items a.provider.now in
    subst (λ items. IsBuilt k (map nv_of items) first c.in-Ok.answers.items) c.from-pending_nvs.ensures.0
    (lent (λ j y. IsBuilt
    (known_of a.graph.now a.root_symbol.now a.options.now.workspace_members.items (j.1.url_of y.now) (j.1.nv_at y.now))
    (map nv_of c.from-pending_nvs.result.items) first c.in-Ok.answers.items)
    a.provider c.in-Ok.ensures.built)

pub returns-in-Err-InvalidExport-clause-refused : goal.returns-in-Err-InvalidExport-clause-refused
returns-in-Err-InvalidExport-clause-refused c =
    let a = c.args in
    let k = known_by a.graph.now a.root_symbol.now a.options.now.workspace_members.items a.provider.now in
    let e = c.in-Err-InvalidExport in
    let fault = faults.InvalidExport e.field-0-0 e.field-0-1 in
    let diagnosed = lent (λ j y. IsRefusal
    (known_of a.graph.now a.root_symbol.now a.options.now.workspace_members.items (j.1.url_of y.now) (j.1.nv_at y.now))
    (map nv_of c.from-pending_nvs.result.items) e.field-0)
    a.provider e.ensures.built in
    record {
      nv = e.field-0-0;
      text = e.field-0-1;
      refused = subst (λ items. IsRefusal k (map nv_of items) fault) c.from-pending_nvs.ensures.0
          (subst (IsRefusal k (map nv_of c.from-pending_nvs.result.items)) e.field-0-is diagnosed);
    }
