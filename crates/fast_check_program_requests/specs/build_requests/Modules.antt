-- The modules that are made of the parts that are handed in, and the first fault of these.
use Rattle.std.specs.Prelude.{◌≡◌, ◌⊎◌, List, [], ◌∷◌}
use Rattle.std.specs.List.{AllZip}
use Rattle.url.specs.Parts.{Parts}
use Rattle.fast_check_tables_modules.specs.symbols.declared.fault.TableFault.{TableFault}
use Rattle.fast_check_tables_modules.specs.EsModule.{EsModule, JsonModule}
use Rattle.fast_check_tables_modules.specs.symbols.WellFormed.{AreMadeOf, AreWellFormed, IsTableFault}
use Rattle.fast_check_tables_modules.specs.FitProgram.{FitProgram, IsModuleFault}
use Rattle.fast_check_tables_graph.specs.declared.root_symbol.AnyModuleInfo.{AnyModuleInfo}
use Rattle.fast_check_tables_graph.specs.declared.root_symbol.AnyModuleInfo.TheVariants as infos
use Rattle.fast_check_program_requests.specs.declared.request.EsModuleParts.{EsModuleParts}
use Rattle.fast_check_program_requests.specs.declared.build_requests.module_parts.JsonModuleParts.{JsonModuleParts}
use Rattle.fast_check_program_requests.specs.declared.build_requests.module_parts.ModuleParts.{ModuleParts}
use Rattle.fast_check_program_requests.specs.declared.build_requests.module_parts.ModuleParts.TheVariants as parts

-- parts with their names
abbrev pub Entries : Type 0
Entries = List (Parts × ModuleParts)

-- ---- modules

-- a module with the name, the source and the tables of the parts
pub record IsEsModuleOf (p : EsModuleParts) (m : EsModule) : Type 0 where
  pub specifier : m.specifier ≡ p.specifier
  pub source : m.source ≡ p.source
  pub tables : AreMadeOf p.tables m.tables

-- the same without a source
pub record IsJsonModuleOf (p : JsonModuleParts) (m : JsonModule) : Type 0 where
  pub specifier : m.specifier ≡ p.specifier
  pub tables : AreMadeOf p.tables m.tables

abbrev pub IsModuleOf : ModuleParts → AnyModuleInfo → Type 0
IsModuleOf (parts.Esm p) (infos.Esm m) = IsEsModuleOf p m
IsModuleOf (parts.Esm p) (infos.Json m) = ⊥
IsModuleOf (parts.Json p) (infos.Esm m) = ⊥
IsModuleOf (parts.Json p) (infos.Json m) = IsJsonModuleOf p m

-- ---- faults

-- the tables have no fault, beside the source where there is one
abbrev pub AreSound : ModuleParts → Type 0
AreSound (parts.Esm p) = FitProgram p.tables p.source.program
AreSound (parts.Json p) = AreWellFormed p.tables

-- their first fault
abbrev pub IsFaultOf : ModuleParts → TableFault → Type 0
IsFaultOf (parts.Esm p) fault = IsModuleFault p.tables p.source.program fault
IsFaultOf (parts.Json p) fault = IsTableFault p.tables fault

-- ---- entries, in order

-- under the same name, the module of parts that are sound
pub record IsEntryOf (e : Parts × ModuleParts) (m : Parts × AnyModuleInfo) : Type 0 where
  pub name : m.0 ≡ e.0
  pub sound : AreSound e.1
  pub made : IsModuleOf e.1 m.1

abbrev pub AreModulesOf : Entries → List (Parts × AnyModuleInfo) → Type 0
AreModulesOf = AllZip IsEntryOf

-- the first parts with a fault have this one
abbrev pub IsFirstFault : Entries → TableFault → Type 0
IsFirstFault [] fault = ⊥
IsFirstFault (e ∷ es) fault = IsFaultOf e.1 fault ⊎ (AreSound e.1 × IsFirstFault es fault)
