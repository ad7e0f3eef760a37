use Rattle.std.proofs.Common.{◌∙◌, sym, ap, List}
use Rattle.std.specs.List.{list_any}
use Rattle.fast_check_tables_modules.specs.declared.expandos.Expando.{Expando}
use Rattle.fast_check_tables_modules.specs.EsModule.{is_ranged_unbound}
use Rattle.fast_check_tables_modules.proofs.FaultsFound.{binds_own}
use Rattle.fast_check_tables_modules.proofs.unbound.bound_expandos.Goals as goal

pub returns-then-branch-clause-fault : goal.returns-then-branch-clause-fault
returns-then-branch-clause-fault c =
    let read = c.deref.ensures.value ∙ c.in_ok-expandos.ensures in
    ap (λ (es : List Expando). list_any (is_ranged_unbound c.args.tables.now) es) (sym read) ∙
    (sym c.in_ok-any_unbound.ensures ∙ c.if-branch.true)

pub returns-clause-bound : goal.returns-clause-bound
returns-clause-bound c =
    let read = c.deref.ensures.value ∙ c.in_ok-expandos.ensures in
    record {
      read = c.in_ok-expandos.ensures;
      bound = binds_own c.args.tables.now c.args.program.now
          (ap (λ (es : List Expando). list_any (is_ranged_unbound c.args.tables.now) es) (sym read)
          ∙ (sym c.in_ok-any_unbound.ensures ∙ c.if-branch.false));
    }
