-- Names of modules.
use Rattle.std.specs.Prelude.{Bool, not, IsTrue, List, Option}
use Rattle.std.specs.List.{Contains}
use Rattle.std.specs.Map.{lookup}
use Rattle.std.specs.Option.{option_and_then, option_or}
use Rattle.std.specs.BTreeMap.{BTreeMap}
use Rattle.url.specs.Parts.{Parts}
use Rattle.fast_check_tables_modules.specs.symbols.declared.fault.TableFault.{TableFault}
use Rattle.fast_check_tables_modules.specs.symbols.declared.fault.TableFault.TheVariants.{MissingSymbol, SymbolWithoutDecl}
use Rattle.fast_check_tables_modules.specs.symbols.declared.fault.TableFault.TheVariants.{ModuleNotUnderOwnName}
use Rattle.fast_check_tables_modules.specs.symbols.declared.fault.TableFault.TheVariants.{ExpandoWithoutSymbol, OutOfMemory}
use Rattle.fast_check_tables_graph.specs.declared.root_symbol.AnyModuleInfo.{AnyModuleInfo}
use Rattle.fast_check_tables_graph.specs.declared.root_symbol.AnyModuleInfo.TheVariants.{Esm, Json}
use Rattle.fast_check_tables_graph.specs.Graph.{is_specifier}

-- a module's own name
abbrev pub specifier_of : AnyModuleInfo → Parts
specifier_of (Esm info) = info.specifier
specifier_of (Json info) = info.specifier

-- an entry whose key is not the name of its module
abbrev pub is_misplaced : Parts × AnyModuleInfo → Bool
is_misplaced e = not (is_specifier e.0 (specifier_of e.1))

-- a key differs from its module's name
pub record HasMisplaced (modules : BTreeMap Parts AnyModuleInfo) : Type 0 where
  pub entry : Parts × AnyModuleInfo
  pub among : Contains modules.entries entry
  pub differs : IsTrue (is_misplaced entry)

abbrev pub StandUnderOwnNames : BTreeMap Parts AnyModuleInfo → Type 0
StandUnderOwnNames modules = HasMisplaced modules → ⊥

-- the only fault is a module under another name
abbrev pub IsRootFault : BTreeMap Parts AnyModuleInfo → TableFault → Type 0
IsRootFault modules MissingSymbol = ⊥
IsRootFault modules SymbolWithoutDecl = ⊥
IsRootFault modules ModuleNotUnderOwnName = HasMisplaced modules
IsRootFault modules ExpandoWithoutSymbol = ⊥
IsRootFault modules OutOfMemory = ⊥

-- the module of a name
abbrev pub module_named : List (Parts × AnyModuleInfo) → Parts → Option AnyModuleInfo
module_named modules name = lookup (is_specifier name) modules

-- the module of the name that an alias stands for
abbrev pub module_aliased : List (Parts × AnyModuleInfo) → List (Parts × Parts) → Parts → Option AnyModuleInfo
module_aliased modules aliases name = option_and_then (module_named modules) (lookup (is_specifier name) aliases)

-- a module's key goes before an alias
abbrev pub module_under : List (Parts × AnyModuleInfo) → List (Parts × Parts) → Parts → Option AnyModuleInfo
module_under modules aliases name = option_or (module_named modules name) (module_aliased modules aliases name)
