use Rattle.std.proofs.Common.{map, take}
use Rattle.std.specs.List.{flat_map}
use Rattle.fast_check_finder_ranges.specs.findings.Faults.{source_of, placed_seen}
use Rattle.fast_check_finder_ranges.specs.findings.Yields.{of_demand}
use Rattle.fast_check_finder_ranges.specs.findings.ModuleFaults.{AddsFaults}
use Rattle.fast_check_finder_ranges.proofs.findings.module_faults.add_demand_faults.Given as goal

abbrev pub invariant-loop-fault : goal.invariant-loop-fault
invariant-loop-fault l = AddsFaults (map of_demand (flat_map (placed_seen (source_of l.faulty)) (take l.fault-index l.faults)))
    l.initial.others.entries l.others.entries
