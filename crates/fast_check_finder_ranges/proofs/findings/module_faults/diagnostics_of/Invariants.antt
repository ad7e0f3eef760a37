use Rattle.std.proofs.Common.{◌≡◌, map, Some}
use Rattle.url.specs.Parts.{serialize}
use Rattle.fast_check_finder_ranges.specs.findings.Diagnostics.{fault_reported}
use Rattle.fast_check_finder_ranges.specs.findings.ModuleFaults.{fault_of}
use Rattle.fast_check_finder_ranges.proofs.findings.module_faults.diagnostics_of.Given as goal

abbrev pub invariant-loop-fault : goal.invariant-loop-fault
invariant-loop-fault l = map (fault_reported (serialize l.specifier)) l.out.items ≡ map (λ e. Some (fault_of e)) l.yielded
