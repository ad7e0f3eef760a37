-- The modules of a build by their names.
use Rattle.std.specs.Prelude.{◌≡◌, not, IsTrue, List, Option, Some}
use Rattle.std.specs.List.{All}
use Rattle.std.specs.Option.{option_and_then, option_or}
use Rattle.std.specs.Ordering.{nat_cmp}
use Rattle.std.specs.Cmp.Lexicographic.{slice_cmp}
use Rattle.std.specs.declared.cmp.Ordering.{Ordering}
use Rattle.url.specs.Parts.{Parts, serialize}
use Rattle.fast_check_tables_symbols.specs.Entries.{last_value}
use Rattle.fast_check_tables_modules.specs.symbols.declared.fault.TableFault.{TableFault}
use Rattle.fast_check_tables_modules.specs.symbols.declared.fault.TableFault.TheVariants as faults
use Rattle.fast_check_tables_graph.specs.declared.root_symbol.AnyModuleInfo.{AnyModuleInfo}
use Rattle.fast_check_tables_graph.specs.declared.root_symbol.RootSymbol.{RootSymbol}
use Rattle.fast_check_tables_graph.specs.Graph.{is_specifier}
use Rattle.fast_check_tables_graph.specs.Root.{found_module}
use Rattle.fast_check_program_requests.specs.declared.build_requests.module_parts.ModuleParts.{ModuleParts}
use Rattle.fast_check_program_requests.specs.declared.build_requests.module_parts.ModuleParts.TheVariants as parts
use Rattle.fast_check_program_requests.specs.build_requests.Modules.{Entries, AreModulesOf, AreSound, IsFirstFault}

-- URLs by the bytes of their texts
abbrev pub url_cmp : Parts → Parts → Ordering
url_cmp a b = slice_cmp nat_cmp (serialize a) (serialize b)

-- the own name of parts
abbrev pub name_of : ModuleParts → Parts
name_of (parts.Esm p) = p.specifier
name_of (parts.Json p) = p.specifier

-- the module of the last entry of a name, or else of the name that the last alias stands for
abbrev pub last_found : List (Parts × AnyModuleInfo) → List (Parts × Parts) → Parts → Option AnyModuleInfo
last_found modules aliases name =
    option_or (last_value (is_specifier name) modules)
    (option_and_then (λ other. last_value (is_specifier other) modules) (last_value (is_specifier name) aliases))

-- each module is made of its parts, and is found by the last entry
pub record IsRootOfParts (modules : Entries) (aliases : List (Parts × Parts)) (root : RootSymbol) : Type 0 where
  pub made : List (Parts × AnyModuleInfo)
  pub are_made : AreModulesOf modules made
  pub finds : (name : Parts) → found_module root name ≡ last_found made aliases name

-- the last parts that stand under a name have another one
pub record HasMisplacedParts (modules : Entries) : Type 0 where
  pub name : Parts
  pub misplaced : ModuleParts
  pub counts : last_value (is_specifier name) modules ≡ Some misplaced
  pub differs : IsTrue (not (is_specifier name (name_of misplaced)))

abbrev pub StandUnderNames : Entries → Type 0
StandUnderNames modules = HasMisplacedParts modules → ⊥

-- the first fault of the modules' tables, or else a module under another name; memory may run out at any modules
abbrev pub IsBuildFault : Entries → TableFault → Type 0
IsBuildFault modules faults.ModuleNotUnderOwnName = All (λ e. AreSound e.1) modules × HasMisplacedParts modules
IsBuildFault modules faults.OutOfMemory = Unit {0}
IsBuildFault modules fault = IsFirstFault modules fault
