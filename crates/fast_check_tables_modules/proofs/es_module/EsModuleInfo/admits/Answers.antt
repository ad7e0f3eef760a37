use Rattle.std.proofs.Common.{◌∙◌, ap, List}
use Rattle.std.specs.List.{list_any}
use Rattle.fast_check_tables_modules.specs.declared.expandos.Expando.{Expando}
use Rattle.fast_check_tables_modules.specs.EsModule.{is_public_unbound}
use Rattle.fast_check_tables_modules.proofs.FaultsFound.{admits_when, own_admitted}
use Rattle.fast_check_tables_modules.proofs.es_module.EsModuleInfo.admits.Goals as goal

pub returns-clause-exactly : goal.returns-clause-exactly
returns-clause-exactly c =
    let m = c.self.inside in
    let public = c.args.public_ranges.now in
    rw (← c.self.view_is)
    (admits_when (record { specifier = m.specifier; source = m.source; tables = m.tables }) public c.any_public_unbound.result
    (c.any_public_unbound.ensures
    ∙ ap (λ (es : List Expando). list_any (is_public_unbound m.tables public) es) (c.deref.ensures.value ∙ c.self.invariant.read)))

pub returns-clause-own : goal.returns-clause-own
returns-clause-own c =
    let m = c.self.inside in
    let public = c.args.public_ranges.now in
    rw (← c.self.view_is)
    (own_admitted (record { specifier = m.specifier; source = m.source; tables = m.tables }) public c.any_public_unbound.result
    (c.any_public_unbound.ensures
    ∙ ap (λ (es : List Expando). list_any (is_public_unbound m.tables public) es) (c.deref.ensures.value ∙ c.self.invariant.read))
    c.self.invariant.bound)
