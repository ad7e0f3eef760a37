use Rattle.std.proofs.Common.{rules, subst, map, List}
use Rattle.std.specs.List.{flat_map}
use Rattle.std.proofs.lemmas.List.{take_all}
use Rattle.fast_check_finder_demands.specs.declared.fault.SymbolFault.{SymbolFault}
use Rattle.fast_check_finder_ranges.specs.findings.Faults.{source_of, placed_seen}
use Rattle.fast_check_finder_ranges.specs.findings.Yields.{of_demand}
use Rattle.fast_check_finder_ranges.specs.findings.ModuleFaults.{AddsFaults}
use Rattle.fast_check_finder_ranges.proofs.findings.Collected.{adds_none, adds_more}
use Rattle.fast_check_finder_ranges.proofs.findings.module_faults.add_demand_faults.Goals as goal

pub loop-fault-init : goal.loop-fault-init
loop-fault-init c = adds_none c.args.others.now.entries

pub loop-fault-preserved : goal.loop-fault-preserved
loop-fault-preserved c =
    adds_more (placed_seen (source_of c.args.faulty)) c.args.faults.now c.loop-fault.fault-index c.args.others.now.entries
    c.loop-fault.others.entries c.add_demand_fault.new.others.entries {s = c.fault-item.result} c.loop-fault-test.true (search rules)
    c.loop-fault.invariant c.in_ok-add_demand_fault.ensures

pub returns : goal.returns
returns c = subst
    (λ (ss : List SymbolFault). AddsFaults (map of_demand (flat_map (placed_seen (source_of c.args.faulty)) ss)) c.args.others.now.entries
    c.loop-fault.others.entries)
    (take_all c.loop-fault.fault-index c.args.faults.now c.loop-fault-test.false) c.loop-fault.invariant
