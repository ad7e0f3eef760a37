-- What speaks against a package: the reasons for which its modules have no skeletons.
use Rattle.std.specs.Prelude.{◌≡◌, ◌==◌, Bool, true, false, List, [], ◌∷◌, length, map, Option, Some, None}
use Rattle.std.specs.List.{flat_map, take_while}
use Rattle.url.specs.Parts.{Parts}
use Rattle.fast_check_meaning_signatures.specs.declared.fault.Fault.{Fault}
use Rattle.fast_check_tables_modules.specs.diagnostics.PublicRanges.{PublicRanges}
use Rattle.fast_check_tables_modules.specs.diagnostics.Diagnostic.{specifier_of}
use Rattle.fast_check_tables_modules.specs.diagnostics.declared.diagnostics.FastCheckDiagnostic.{FastCheckDiagnostic}
use Rattle.fast_check_tables_modules.specs.EsModule.{EsModule}
use Rattle.fast_check_tables_graph.specs.Root.{found_module}
use Rattle.fast_check_tables_graph.specs.declared.graph.ModuleGraph.{ModuleGraph}
use Rattle.fast_check_tables_graph.specs.declared.root_symbol.AnyModuleInfo.{AnyModuleInfo}
use Rattle.fast_check_tables_graph.specs.declared.root_symbol.AnyModuleInfo.TheVariants.{Esm, Json}
use Rattle.fast_check_tables_graph.specs.declared.root_symbol.RootSymbol.{RootSymbol}
use Rattle.fast_check_transform_module.specs.Transform.{faults}
use Rattle.fast_check_transform_module.specs.transform_faults.Diagnostics.{IsDiagnosticOf, diagnosed}

-- a module of a package: its specifier, and what is public in it
abbrev pub PublicModule : Type 0
PublicModule = Parts × PublicRanges

-- what the finder found wrong with a module, or a fault that the transform reports of one
pub data PackageFault : Type 0 where
  found : FastCheckDiagnostic → PackageFault
  transform_fault : EsModule → Fault → PackageFault

-- what the finder found is reported as it is, and a fault as a diagnostic of its kind at its place
abbrev pub Diagnoses : PackageFault → FastCheckDiagnostic → Type 0
Diagnoses (found d) diagnosed_as = diagnosed_as ≡ d
Diagnoses (transform_fault info fault) diagnosed_as = IsDiagnosticOf info fault diagnosed_as

-- the faults of the transform, all or the first alone; none without a syntax tree
abbrev pub faults_in_tree : Bool → ModuleGraph → PublicRanges → Option AnyModuleInfo → List PackageFault
faults_in_tree first graph public (Some (Esm info)) = map (transform_fault info) (diagnosed first (faults graph info public))
faults_in_tree first graph public (Some (Json _)) = []
faults_in_tree first graph public None = []

-- what the finder found goes before all else
abbrev pub found_or : List FastCheckDiagnostic → List PackageFault → List PackageFault
found_or [] others = others
found_or (d ∷ ds) others = map found (d ∷ ds)

-- a module's list: what the finder found wrong with it, or else the faults of the transform
abbrev pub module_faults : Bool → ModuleGraph → RootSymbol → PublicModule → List PackageFault
module_faults first graph root m = found_or m.1.diagnostics (faults_in_tree first graph m.1 (found_module root m.0))

-- the first of the lists that has anything
abbrev pub first_list : List (List PackageFault) → List PackageFault
first_list [] = []
first_list ([] ∷ lists) = first_list lists
first_list ((r ∷ rs) ∷ lists) = r ∷ rs

-- the list of a package: those of its modules joined, or where the first fault is wanted alone, that of the first
-- module that has one
abbrev pub package_faults : Bool → ModuleGraph → RootSymbol → List PublicModule → List PackageFault
package_faults false graph root modules = flat_map (module_faults false graph root) modules
package_faults true graph root modules = first_list (map (module_faults true graph root) modules)

-- nothing is wrong with a module
abbrev pub is_sound : Bool → ModuleGraph → RootSymbol → PublicModule → Bool
is_sound first graph root m = length (module_faults first graph root m) == 0

-- the modules before the first with something wrong
abbrev pub sound_front : Bool → ModuleGraph → RootSymbol → List PublicModule → List PublicModule
sound_front first graph root modules = take_while (is_sound first graph root) modules

-- the module that a reason speaks of
abbrev pub subject : PackageFault → Parts
subject (found d) = specifier_of d
subject (transform_fault info _) = info.specifier
