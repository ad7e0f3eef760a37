use Rattle.std.proofs.Common.{refl, [], ◌∷◌}
use Rattle.std.proofs.lemmas.Result.{on_ok_weaker}
use Rattle.fast_check_finder_ranges.specs.declared.findings.found.EntryFault.{EntryFault}
use Rattle.fast_check_finder_ranges.specs.declared.findings.found.EntryFault.TheVariants.{NotFound, Untyped}
use Rattle.fast_check_finder_ranges.specs.findings.Findings.{entry_fault}
use Rattle.fast_check_finder_ranges.proofs.findings.Collected.{AreOthers, adds_others}
use Rattle.fast_check_finder_ranges.proofs.findings.module_faults.ModuleFaults.add_entry_fault.Goals as goal

entry_is_other : (f : EntryFault) → AreOthers (entry_fault f ∷ [])
entry_is_other NotFound = (refl, refl)
entry_is_other Untyped = (refl, refl)

pub returns : goal.returns
returns c = on_ok_weaker c.add_fault.result
    (λ adds. adds_others (entry_fault c.args.fault ∷ []) c.args.self.now
    (record { is_untyped = c.args.self.now.is_untyped; others = c.add_fault.new.others }) (entry_is_other c.args.fault) refl adds)
    c.add_fault.ensures
