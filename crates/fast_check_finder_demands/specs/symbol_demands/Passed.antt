-- Inner: no contract of a public call cites what stands here.
-- What a demand names, without the names of an alias's own path; and these, which are the same for each path that a
-- symbol asks of the alias.
use Rattle.std.specs.Prelude.{cond, List, [], ◌∷◌, map, string_bytes}
use Rattle.std.specs.List.{flat_map}
use Rattle.fast_check_finder_lattice.specs.Names.{Path}
use Rattle.fast_check_tables_symbols.specs.declared.symbol_id.SymbolId.{SymbolId}
use Rattle.fast_check_tables_symbols.specs.declared.symbol.Symbol.{Symbol}
use Rattle.fast_check_tables_symbols.specs.declared.decl.SymbolDeclKind.{SymbolDeclKind}
use Rattle.fast_check_tables_symbols.specs.declared.decl.SymbolDeclKind.TheVariants.{Target, QualifiedTarget, FileRef}
use Rattle.fast_check_tables_symbols.specs.declared.decl.SymbolDeclKind.TheVariants.{Definition}
use Rattle.fast_check_tables_symbols.specs.Symbols.{symbol_of}
use Rattle.fast_check_tables_symbols.specs.Tables.{Tables}
use Rattle.fast_check_finder_demands.specs.declared.symbol_demands.demand.Extent.{Extent}
use Rattle.fast_check_finder_demands.specs.declared.symbol_demands.demand.Extent.TheVariants.{Whole}
use Rattle.fast_check_finder_demands.specs.symbol_demands.Decls.{has_alias}
use Rattle.fast_check_finder_demands.specs.symbol_demands.Demands.{Demand, Asked, by_reference, as_child, by_path}
use Rattle.fast_check_finder_demands.specs.symbol_demands.Rules.{each_of, bound, qualified, symbol_names, first_names}

-- without the names of an alias's own path

abbrev pub alias_passed : Tables → Demand → Path → Extent → SymbolDeclKind → List Demand
alias_passed t d path extent (Target id) = each_of (λ x. qualified x path extent d.referrer ∷ []) (bound t id)
alias_passed t d path extent (QualifiedTarget id parts) = each_of (λ x. qualified x path extent d.referrer ∷ []) (bound t id)
alias_passed t d path extent (FileRef specifier name) = []
alias_passed t d path extent (Definition _) = []

abbrev pub path_passed : Tables → Demand → Path → Extent → Symbol → List Demand
path_passed t d path extent s = cond (has_alias s.decls.items)
    (flat_map (λ x. alias_passed t d path extent x.kind) s.decls.items)
    (first_names t d path extent s)

abbrev pub asked_passed : Tables → Demand → Asked → Symbol → List Demand
asked_passed t d (by_reference n) s = symbol_names t d n s
asked_passed t d (as_child n) s = symbol_names t d n s
asked_passed t d (by_path path extent) s = path_passed t d path extent s

abbrev pub passed : Tables → Demand → List Demand
passed t d = each_of (asked_passed t d d.asked) (symbol_of d.symbol t.symbols)

-- the names of an alias's own path

abbrev pub own_parts : Tables → SymbolId → SymbolDeclKind → List Demand
own_parts t referrer (Target id) = []
own_parts t referrer (QualifiedTarget id parts) =
    each_of (λ x. map (λ part. qualified x (string_bytes part ∷ []) Whole referrer) parts.items) (bound t id)
own_parts t referrer (FileRef specifier name) = []
own_parts t referrer (Definition _) = []

abbrev pub symbol_own : Tables → SymbolId → Symbol → List Demand
symbol_own t referrer s = cond (has_alias s.decls.items) (flat_map (λ x. own_parts t referrer x.kind) s.decls.items) []

abbrev pub own_names : Tables → SymbolId → SymbolId → List Demand
own_names t symbol referrer = each_of (symbol_own t referrer) (symbol_of symbol t.symbols)

-- of a path alone
abbrev pub asked_own : Tables → Demand → Asked → List Demand
asked_own t d (by_reference n) = []
asked_own t d (as_child n) = []
asked_own t d (by_path path extent) = own_names t d.symbol d.referrer
