-- What a demand of a module asks of its symbols. The referrer is the symbol that stands for the module.
use Rattle.std.specs.Prelude.{Bool, true, false, not, ◌&&◌, ◌||◌, cond, List, [], ◌∷◌, Option, Some, None}
use Rattle.std.specs.List.{flat_map, list_any}
use Rattle.std.specs.Str.{bytes_eq}
use Rattle.fast_check_finder_lattice.specs.Names.{Name, Path}
use Rattle.fast_check_finder_lattice.specs.Imports.{NameDemand, names_but_default, each_name, subset_at, whole_at, default_name}
use Rattle.fast_check_tables_symbols.specs.declared.symbol_id.SymbolId.{SymbolId}
use Rattle.fast_check_tables_symbols.specs.declared.symbol.Symbol.{Symbol}
use Rattle.fast_check_tables_symbols.specs.declared.decl.SymbolDecl.{SymbolDecl}
use Rattle.fast_check_tables_symbols.specs.Decls.{decl_has_export_keyword}
use Rattle.fast_check_tables_symbols.specs.Symbols.{symbol_of}
use Rattle.fast_check_tables_modules.specs.symbols.Tables.{Tables}
use Rattle.fast_check_finder_demands.specs.declared.symbol_demands.demand.Namespaces.{Namespaces}
use Rattle.fast_check_finder_demands.specs.declared.symbol_demands.demand.Namespaces.TheVariants.{Value, Type_, Both}
use Rattle.fast_check_finder_demands.specs.declared.symbol_demands.demand.Extent.{Extent}
use Rattle.fast_check_finder_demands.specs.declared.symbol_demands.demand.Extent.TheVariants.{Touched, Whole}
use Rattle.fast_check_finder_demands.specs.symbol_demands.Demands.{Demand}
use Rattle.fast_check_finder_demands.specs.symbol_demands.Decls.{binds}
use Rattle.fast_check_finder_demands.specs.symbol_demands.Rules.{each_of, reference, qualified}
use Rattle.fast_check_finder_demands.specs.re_exports.Modules.{own_export}

-- a declaration that stands behind the keyword `export` binds the name in the namespace
abbrev pub is_exported_in : List SymbolDecl → Namespaces → Bool
is_exported_in decls n = list_any (λ x. decl_has_export_keyword x && binds x n) decls

-- the namespaces in which a symbol is exported: both, where it is exported in none, as by `export { a }`
abbrev pub namespaces_with : Bool → Bool → Namespaces
namespaces_with true false = Value
namespaces_with false true = Type_
namespaces_with _ _ = Both

abbrev pub exported_in : Option Symbol → Namespaces
exported_in None = Both
exported_in (Some s) = namespaces_with (is_exported_in s.decls.items Value) (is_exported_in s.decls.items Type_)

-- an export whole
abbrev pub export_whole : Tables → SymbolId → Demand
export_whole t x = reference x (exported_in (symbol_of x t.symbols)) t.module_symbol

-- each export, `default` only where it is meant
abbrev pub star_export : Tables → Bool → Name × SymbolId → List Demand
star_export t with_default e = cond (with_default || not (bytes_eq e.0 default_name)) (export_whole t e.1 ∷ []) []

abbrev pub star_roots : Tables → Bool → List Demand
star_roots t with_default = each_of (λ s. flat_map (star_export t with_default) s.exports)
    (symbol_of t.module_symbol t.symbols)

-- what goes on below an export
abbrev pub path_roots : Tables → SymbolId → Path → Extent → List Demand
path_roots t x [] Whole = export_whole t x ∷ []
path_roots t x [] Touched = qualified x [] Touched t.module_symbol ∷ []
path_roots t x (n ∷ p) extent = qualified x (n ∷ p) extent t.module_symbol ∷ []

-- what a demand of the module asks of its symbols
abbrev pub roots : Tables → NameDemand → List Demand
roots t names_but_default = star_roots t false
roots t each_name = star_roots t true
roots t (subset_at []) = []
roots t (subset_at (n ∷ p)) = each_of (λ x. path_roots t x p Touched) (own_export t n)
roots t (whole_at []) = []
roots t (whole_at (n ∷ p)) = each_of (λ x. path_roots t x p Whole) (own_export t n)
