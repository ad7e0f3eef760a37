use Rattle.std.proofs.Common.{take}
use Rattle.fast_check_transform_module.specs.transform_faults.Diagnostics.{AreDiagnosticsOf}
use Rattle.fast_check_transform_module.proofs.transform_faults.diagnostics.diagnostics_of.Given as goal

abbrev pub invariant-loop-fault : goal.invariant-loop-fault
invariant-loop-fault l = AreDiagnosticsOf l.es_module_info (take l.fault-index l.faults) l.diagnostics.items
