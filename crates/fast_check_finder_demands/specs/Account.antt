-- When demands ask for one thing.
use Rattle.std.specs.Prelude.{Bool, true, false, ◌&&◌, cond, List, [], ◌∷◌}
use Rattle.std.specs.Str.{bytes_eq}
use Rattle.fast_check_finder_lattice.specs.Names.{Path}
use Rattle.fast_check_tables_symbols.specs.declared.symbol_id.SymbolId.{SymbolId}
use Rattle.fast_check_finder_demands.specs.declared.symbol_demands.demand.Namespaces.{Namespaces}
use Rattle.fast_check_finder_demands.specs.declared.symbol_demands.demand.Namespaces.TheVariants.{Value, Type_, Both}
use Rattle.fast_check_finder_demands.specs.declared.symbol_demands.demand.Extent.{Extent}
use Rattle.fast_check_finder_demands.specs.declared.symbol_demands.demand.Extent.TheVariants.{Touched, Whole}
use Rattle.fast_check_finder_demands.specs.symbol_demands.Demands.{Demand, Asked, by_reference, as_child, by_path, same_symbol}

-- equality of what is asked

abbrev pub same_namespaces : Namespaces → Namespaces → Bool
same_namespaces Value Value = true
same_namespaces Type_ Type_ = true
same_namespaces Both Both = true
same_namespaces _ _ = false

abbrev pub same_extent : Extent → Extent → Bool
same_extent Touched Touched = true
same_extent Whole Whole = true
same_extent Touched Whole = false
same_extent Whole Touched = false

abbrev pub same_path : Path → Path → Bool
same_path [] [] = true
same_path [] (y ∷ ys) = false
same_path (x ∷ xs) [] = false
same_path (x ∷ xs) (y ∷ ys) = bytes_eq x y && same_path xs ys

abbrev pub same_asked : Asked → Asked → Bool
same_asked (by_reference n) (by_reference m) = same_namespaces n m
same_asked (by_reference n) (as_child m) = false
same_asked (by_reference n) (by_path q y) = false
same_asked (as_child n) (by_reference m) = false
same_asked (as_child n) (as_child m) = same_namespaces n m
same_asked (as_child n) (by_path q y) = false
same_asked (by_path p x) (by_reference m) = false
same_asked (by_path p x) (as_child m) = false
same_asked (by_path p x) (by_path q y) = same_path p q && same_extent x y

-- two demands are one
abbrev pub same : Demand → Demand → Bool
same d e = same_symbol d.symbol e.symbol && (same_asked d.asked e.asked && same_symbol d.referrer e.referrer)

-- who asks plays a part for a path alone
abbrev pub asker : Asked → SymbolId → SymbolId → SymbolId
asker (by_reference n) symbol referrer = symbol
asker (as_child n) symbol referrer = symbol
asker (by_path p x) symbol referrer = referrer

abbrev pub essence : Demand → Demand
essence d = record { symbol = d.symbol; asked = d.asked; referrer = asker d.asked d.symbol d.referrer }

-- two demands ask for one thing: of the first of them, the other needs nothing more
abbrev pub alike : Demand → Demand → Bool
alike d e = same (essence d) (essence e)

-- a demand in both namespaces is one in each of them
abbrev pub is_both : Asked → Bool
is_both (by_reference Both) = true
is_both (as_child Both) = true
is_both _ = false

abbrev pub asked_within : Namespaces → Asked → Asked
asked_within n (by_reference m) = by_reference n
asked_within n (as_child m) = as_child n
asked_within n (by_path p x) = by_path p x

abbrev pub narrowed : Namespaces → Demand → Demand
narrowed n d = record { symbol = d.symbol; asked = asked_within n d.asked; referrer = d.referrer }

abbrev pub parts : Demand → List Demand
parts d = cond (is_both d.asked) (narrowed Value d ∷ narrowed Type_ d ∷ []) (d ∷ [])

-- a demand as a child is met by one by reference in the same namespaces
abbrev pub as_reference : Asked → Asked
as_reference (by_reference n) = by_reference n
as_reference (as_child n) = by_reference n
as_reference (by_path p x) = by_path p x

abbrev pub referred : Demand → Demand
referred d = record { symbol = d.symbol; asked = as_reference d.asked; referrer = d.referrer }
