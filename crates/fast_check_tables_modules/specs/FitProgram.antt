-- What tables have to meet beside a program, and what is wrong with those that do not.
use Rattle.std.specs.Prelude.{◌≡◌, None}
use Rattle.std.specs.List.{Contains}
use Rattle.fast_check_tree_syntax.specs.declared.tree.Tree.{Tree}
use Rattle.fast_check_tables_symbols.specs.declared.fault.TableFault.{TableFault}
use Rattle.fast_check_tables_symbols.specs.declared.fault.TableFault.TheVariants.{MissingSymbol, SymbolWithoutDecl}
use Rattle.fast_check_tables_symbols.specs.declared.fault.TableFault.TheVariants.{ModuleNotUnderOwnName, ExpandoWithoutSymbol}
use Rattle.fast_check_tables_symbols.specs.declared.fault.TableFault.TheVariants.{OutOfMemory}
use Rattle.fast_check_tables_symbols.specs.declared.tables.ModuleTables.{ModuleTables}
use Rattle.fast_check_tables_symbols.specs.Tables.{table_ranges}
use Rattle.fast_check_tables_symbols.specs.WellFormed.{AreWellFormed, LacksDeclaration, MissesSymbol, symbols_of, bound_symbol}
use Rattle.fast_check_tables_modules.specs.declared.expandos.Expando.{Expando}
use Rattle.fast_check_tables_modules.specs.Expandos.{expandos}

-- an expando statement of the program has one of the tables' ranges, and its object has no symbol
pub record HasUnboundExpando (t : ModuleTables) (program : Tree) : Type 0 where
  pub expando : Expando
  pub among : Contains (expandos program) expando
  pub ranged : Contains (table_ranges (symbols_of t) t.re_export_all_nodes.items) expando.range
  pub unbound : bound_symbol t expando.object ≡ None

-- the first fault of tables beside a program
abbrev pub IsModuleFault : ModuleTables → Tree → TableFault → Type 0
IsModuleFault t program MissingSymbol = MissesSymbol t
IsModuleFault t program SymbolWithoutDecl = (MissesSymbol t → ⊥) × LacksDeclaration t
IsModuleFault t program ModuleNotUnderOwnName = ⊥
IsModuleFault t program ExpandoWithoutSymbol = (MissesSymbol t → ⊥) × (LacksDeclaration t → ⊥) ×
    HasUnboundExpando t program
IsModuleFault t program OutOfMemory = Unit {0}

-- tables without fault beside a program
pub record FitProgram (t : ModuleTables) (program : Tree) : Type 0 where
  pub well_formed : AreWellFormed t
  pub expandos_are_bound : HasUnboundExpando t program → ⊥
