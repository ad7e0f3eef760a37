use Rattle.std.proofs.Common.{refl, subst, map}
use Rattle.std.specs.List.{flat_map}
use Rattle.std.proofs.lemmas.Result.{on_ok_weaker}
use Rattle.fast_check_finder_ranges.specs.findings.Faults.{FaultSource, placed_seen, source_of}
use Rattle.fast_check_finder_ranges.specs.declared.findings.module_faults.ModuleFaults.{ModuleFaults}
use Rattle.fast_check_finder_ranges.specs.findings.Yields.{of_demand}
use Rattle.fast_check_finder_ranges.specs.findings.ModuleFaults.{AddsTo}
use Rattle.fast_check_finder_ranges.proofs.findings.Collected.{demands_are_others, adds_others}
use Rattle.fast_check_finder_ranges.proofs.findings.module_faults.ModuleFaults.add_demand_faults.Goals as goal

pub returns : goal.returns
returns c =
    let new : ModuleFaults = record { is_untyped = c.args.self.now.is_untyped; others = c.add_demand_faults.new.others } in
    let faults = c.args.faults.now in
    on_ok_weaker c.add_demand_faults.result
    (λ adds. subst (λ (m : FaultSource). AddsTo (map of_demand (flat_map (placed_seen m) faults)) c.args.self.now new)
    (c.faulty.ensures c.in_ok-text.ensures)
    (adds_others (map of_demand (flat_map (placed_seen (source_of c.faulty.result)) faults)) c.args.self.now new
    (demands_are_others (flat_map (placed_seen (source_of c.faulty.result)) faults)) refl adds))
    c.add_demand_faults.ensures
