-- What is known of a module.
use Rattle.std.specs.Prelude.{◌≡◌, List, Bool, not, ◌&&◌, IsTrue, is_some, IsSome}
use Rattle.std.specs.List.{Contains, list_any}
use Rattle.url.specs.Parts.{Parts}
use Rattle.fast_check_tree_syntax.specs.declared.source.SourceRange.{SourceRange}
use Rattle.fast_check_tree_syntax.specs.declared.tree.Tree.{Tree}
use Rattle.fast_check_tables_diagnostics.specs.declared.parsed_source.tables.parsed_source.ParsedSource.{ParsedSource}
use Rattle.fast_check_tables_diagnostics.specs.PublicRanges.{PublicRanges, is_public, same_range}
use Rattle.fast_check_tables_modules.specs.declared.expandos.Expando.{Expando}
use Rattle.fast_check_tables_symbols.specs.declared.fault.TableFault.{TableFault}
use Rattle.fast_check_tables_symbols.specs.declared.fault.TableFault.TheVariants.{MissingSymbol, SymbolWithoutDecl}
use Rattle.fast_check_tables_symbols.specs.declared.fault.TableFault.TheVariants.{ModuleNotUnderOwnName, ExpandoWithoutSymbol}
use Rattle.fast_check_tables_symbols.specs.declared.fault.TableFault.TheVariants.{OutOfMemory}
use Rattle.fast_check_tables_modules.specs.Expandos.{expandos}
use Rattle.fast_check_tables_symbols.specs.Tables.{Tables, symbol_of_swc, table_ranges}

-- of an ECMAScript module, its name, its source and its tables
pub record EsModule : Type 0 where
  pub specifier : Parts
  pub source : ParsedSource
  pub tables : Tables

-- of a JSON module
pub record JsonModule : Type 0 where
  pub specifier : Parts
  pub tables : Tables

-- each expando statement with a public range has an object with a symbol
abbrev pub Admits : EsModule → PublicRanges → Type 0
Admits m public =
    (e : Expando) → Contains (expandos m.source.program) e → IsTrue (is_public public e.range) →
    IsSome (symbol_of_swc m.tables e.object)

-- the same of the ranges of the tables themselves
abbrev pub BindsOwnRanges : Tables → Tree → Type 0
BindsOwnRanges t program =
    (e : Expando) → Contains (expandos program) e → Contains (table_ranges t.symbols t.re_exports) e.range →
    IsSome (symbol_of_swc t e.object)

-- all that is public is a range of the tables
abbrev pub AreOwnRanges : Tables → PublicRanges → Type 0
AreOwnRanges t public = (r : SourceRange) → IsTrue (is_public public r) →
    Contains (table_ranges t.symbols t.re_exports) r

-- these are the expando statements of a program, and its tables bind their own ranges
pub record AreRead (t : Tables) (program : Tree) (es : List Expando) : Type 0 where
  pub read : es ≡ expandos program
  pub bound : BindsOwnRanges t program

-- the object of an expando statement has no symbol
abbrev pub is_unbound : Tables → Expando → Bool
is_unbound t e = not (is_some (symbol_of_swc t e.object))

-- and its range is one of the tables'
abbrev pub is_ranged_unbound : Tables → Expando → Bool
is_ranged_unbound t e = list_any (same_range e.range) (table_ranges t.symbols t.re_exports) && is_unbound t e

-- the fault of expando statements of which one is so
abbrev pub IsUnboundFault : Tables → Tree → TableFault → Type 0
IsUnboundFault t program MissingSymbol = ⊥
IsUnboundFault t program SymbolWithoutDecl = ⊥
IsUnboundFault t program ModuleNotUnderOwnName = ⊥
IsUnboundFault t program ExpandoWithoutSymbol = IsTrue (list_any (is_ranged_unbound t) (expandos program))
IsUnboundFault t program OutOfMemory = Unit {0}

-- the object of an expando statement has no symbol, and its range is public
abbrev pub is_public_unbound : Tables → PublicRanges → Expando → Bool
is_public_unbound t public e = is_public public e.range && is_unbound t e
