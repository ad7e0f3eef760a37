-- Modules by name, and names that stand for others.
use Rattle.std.specs.Prelude.{◌≡◌, Option, Some}
use Rattle.std.specs.List.{Contains}
use Rattle.std.specs.BTreeMap.{BTreeMap}
use Rattle.url.specs.Parts.{Parts}
use Rattle.fast_check_tables_graph.specs.declared.root_symbol.AnyModuleInfo.{AnyModuleInfo}
use Rattle.fast_check_tables_graph.specs.declared.root_symbol.RootSymbol.{RootSymbol}
pub use Rattle.fast_check_tables_graph.specs.ModuleNames.{specifier_of, is_misplaced, HasMisplaced, StandUnderOwnNames}
pub use Rattle.fast_check_tables_graph.specs.ModuleNames.{IsRootFault, module_named, module_aliased, module_under}

abbrev pub found_module : RootSymbol → Parts → Option AnyModuleInfo
found_module r name = module_under r.modules.entries r.aliases.entries name

-- what is found is what was handed in
pub record IsRootOf (modules : BTreeMap Parts AnyModuleInfo) (aliases : BTreeMap Parts Parts)
    (r : RootSymbol) : Type 0 where
  pub finds : (name : Parts) → found_module r name ≡ module_under modules.entries aliases.entries name

-- each module is found by its own name
abbrev pub AreFoundByOwnNames : RootSymbol → Type 0
AreFoundByOwnNames r = (e : Parts × AnyModuleInfo) → Contains r.modules.entries e →
    found_module r (specifier_of e.1) ≡ Some e.1
