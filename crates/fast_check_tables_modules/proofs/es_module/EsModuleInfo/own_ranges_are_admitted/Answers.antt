use Rattle.fast_check_tables_diagnostics.specs.PublicRanges.{PublicRanges}
use Rattle.fast_check_tables_modules.specs.EsModule.{EsModule, Admits, AreOwnRanges, BindsOwnRanges}
use Rattle.fast_check_tables_modules.proofs.es_module.EsModuleInfo.own_ranges_are_admitted.Goals as goal

admitted : (m : EsModule) → BindsOwnRanges m.tables m.source.program → (public : PublicRanges) → AreOwnRanges m.tables public → Admits m public
admitted m bound public own = λ e among shown. bound e among (own e.range shown)

pub returns : goal.returns
returns c =
    let m = c.self.inside in
    rw (← c.self.view_is) (admitted (record { specifier = m.specifier; source = m.source; tables = m.tables }) c.self.invariant.bound)
