-- What is wrong, as it is answered.
use Rattle.std.specs.Prelude.{List, [], ◌∷◌, map}
use Rattle.fast_check_tables_packages.specs.Package.{Nv}
use Rattle.fast_check_finder_demands.specs.asked.Demands.{Text}
use Rattle.fast_check_finder_ranges.specs.declared.findings.found.EntryFault.{EntryFault}
use Rattle.fast_check_finder_ranges.specs.declared.findings.found.EntryFault.TheVariants.{NotFound, Untyped}
use Rattle.fast_check_finder_ranges.specs.findings.Faults.{PlacedFault}
use Rattle.fast_check_finder_ranges.specs.findings.Yields.{ModuleFault, missing_entry, untyped_entry, of_demand}
use Rattle.fast_check_finder_ranges.specs.findings.Yields.{Yield, recorded, faulty}

-- a module is recorded with what is wrong with it as a whole
abbrev pub faulty_module : Nv → Text → ModuleFault → List Yield
faulty_module nv t fault = recorded nv t ∷ faulty nv t fault ∷ []

abbrev pub entry_fault : EntryFault → ModuleFault
entry_fault NotFound = missing_entry
entry_fault Untyped = untyped_entry

-- a fault of a demand
abbrev pub placed_yield : Nv → Text → PlacedFault → Yield
placed_yield nv t f = faulty nv t (of_demand f)

-- what is wrong with what was demanded of a module
abbrev pub placed_yields : Nv → Text → List PlacedFault → List Yield
placed_yields nv t found = map (placed_yield nv t) found
