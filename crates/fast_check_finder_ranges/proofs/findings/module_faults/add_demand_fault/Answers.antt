use Rattle.std.proofs.Common.{◌≡◌, ◌∙◌, sym, ap, subst, ℕ, List, [], ◌∷◌, map, Option, Some}
use Rattle.std.specs.Prelude.{option_map, option_to_list}
use Rattle.std.specs.Rc.{rc_str_bytes}
use Rattle.std.proofs.lemmas.Result.{on_ok_weaker}
use Rattle.fast_check_finder_demands.specs.Yields.{fault_seen}
use Rattle.fast_check_finder_demands.specs.declared.fault.SymbolFault.{SymbolFault}
use Rattle.fast_check_finder_ranges.specs.declared.findings.demand_fault.DemandFault.{DemandFault}
use Rattle.fast_check_finder_ranges.specs.findings.Faults.{FaultSource, placed_with, placed, placed_seen, source_of}
use Rattle.fast_check_finder_ranges.specs.findings.Yields.{ModuleFault, of_demand}
use Rattle.fast_check_finder_ranges.specs.findings.ModuleFaults.{AddsFaults}
use Rattle.fast_check_finder_ranges.proofs.findings.module_faults.add_demand_fault.Goals as goal

one_demand : (m : FaultSource) (f : SymbolFault) (p : DemandFault) (text copy : List ℕ) (o : Option DemandFault) → o ≡ Some p →
    option_map (λ d. placed_with d text) o ≡ placed m (fault_seen f) → copy ≡ text →
    of_demand (placed_with p copy) ∷ [] ≡ map of_demand (placed_seen m f)
one_demand m f p text copy o is e same = ap (λ t. of_demand (placed_with p t) ∷ []) same
    ∙ ap (λ o. map of_demand (option_to_list o)) (ap (option_map (λ d. placed_with d text)) (sym is) ∙ e)

pub returns-in_ok-clone-in-Some : goal.returns-in_ok-clone-in-Some
returns-in_ok-clone-in-Some c =
    on_ok_weaker c.add_fault.result
    (λ adds. subst (λ (zs : List ModuleFault). AddsFaults zs c.args.others.now.entries c.add_fault.new.others.entries)
    (one_demand (source_of c.args.faulty) c.args.fault c.in-Some.placed (rc_str_bytes c.args.faulty.text.now)
    (rc_str_bytes c.in_ok-clone-in-Some.field-0) c.in_ok-placed.field-0 c.in-Some.is c.in_ok-placed.ensures c.in_ok-clone-in-Some.ensures.cases)
    adds)
    c.add_fault.ensures
