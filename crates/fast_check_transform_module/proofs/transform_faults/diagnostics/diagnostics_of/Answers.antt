use Rattle.std.proofs.Common.{List, sym, subst}
use Rattle.fast_check_tables_modules.specs.diagnostics.declared.diagnostics.FastCheckDiagnostic.{FastCheckDiagnostic}
use Rattle.fast_check_meaning_signatures.specs.declared.fault.Fault.{Fault}
use Rattle.fast_check_transform_module.specs.transform_faults.Diagnostics.{IsDiagnosticOf, AreDiagnosticsOf}
use Rattle.fast_check_transform_module.proofs.transform_faults.Diagnosed.{next_of}
use Rattle.fast_check_transform_module.proofs.transform_faults.diagnostics.diagnostics_of.Goals as goal

pub loop-fault-preserved : goal.loop-fault-preserved
loop-fault-preserved c =
    let one =
    subst (λ (f : Fault).
    IsDiagnosticOf c.args.es_module_info.now f c.in_ok-diagnostic_of.field-0) c.fault-item.is c.in_ok-diagnostic_of.ensures in
    let more =
    next_of c.args.es_module_info.now c.args.faults.now c.loop-fault.fault-index c.loop-fault.diagnostics.items c.fault-item.result
    c.in_ok-diagnostic_of.field-0
    c.loop-fault-test.true c.loop-fault.invariant one in
    subst (AreDiagnosticsOf c.args.es_module_info.now _) (sym {A = List FastCheckDiagnostic} c.in_ok-push.ensures.items) more
