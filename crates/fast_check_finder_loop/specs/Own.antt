-- What is public in a module is declared in it.
use Rattle.std.specs.Prelude.{⊤, Option, Some, None}
use Rattle.std.specs.List.{Contains}
use Rattle.fast_check_tree_syntax.specs.declared.source.SourceRange.{SourceRange}
use Rattle.fast_check_tables_symbols.specs.Tables.{table_ranges}
use Rattle.fast_check_tables_graph.specs.declared.root_symbol.AnyModuleInfo.{AnyModuleInfo}
use Rattle.fast_check_tables_graph.specs.declared.root_symbol.RootSymbol.{RootSymbol}
use Rattle.fast_check_finder_demands.specs.re_exports.Modules.{tables_in}
use Rattle.fast_check_finder_ranges.specs.findings.Yields.{Yield, public, implementing}
use Rattle.fast_check_finder_demands.specs.facts.GraphFacts.{named_at}

-- a range of the tables of a module
abbrev pub IsOwnRange : Option AnyModuleInfo → SourceRange → Type 0
IsOwnRange None r = ⊥
IsOwnRange (Some info) r = Contains (table_ranges (tables_in info).symbols (tables_in info).re_exports) r

-- a range that a demand makes public is one of the tables of the module of that name
abbrev pub IsOwnYield : RootSymbol → Yield → Type 0
IsOwnYield root (public nv t r) = IsOwnRange (named_at root t) r
IsOwnYield root (implementing nv t r) = IsOwnRange (named_at root t) r
IsOwnYield root _ = ⊤
