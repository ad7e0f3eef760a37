-- What a demand makes public is declared in its module.
use Rattle.std.proofs.Common.{◌≡◌, Bool, true, false, cond, ◌&&◌, List, [], ◌∷◌, ◌++◌, map, Option, Some, None, ◌⊎◌, inl, inr, ⊎_elim}
use Rattle.std.specs.Option.{option_or}
use Rattle.std.specs.List.{Contains, flat_map, filter}
use Rattle.std.proofs.lemmas.List.Elements.{Contains-append_left}
use Rattle.std.proofs.lemmas.Option.{none-some, same_Some}
use Rattle.fast_check_finder_lattice.specs.Names.{Name}
use Rattle.fast_check_tree_syntax.specs.declared.source.SourceRange.{SourceRange}
use Rattle.fast_check_tables_symbols.specs.declared.symbol_id.SymbolId.{SymbolId}
use Rattle.fast_check_tables_symbols.specs.declared.symbol.Symbol.{Symbol}
use Rattle.fast_check_tables_symbols.specs.declared.decl.SymbolDecl.{SymbolDecl}
use Rattle.fast_check_tables_symbols.specs.Entries.{last_that}
use Rattle.fast_check_tables_symbols.specs.Symbols.{symbol_of, has_id}
use Rattle.fast_check_tables_symbols.specs.Tables.{Tables, table_ranges}
use Rattle.fast_check_finder_demands.specs.declared.symbol_demands.demand.Namespaces.{Namespaces}
use Rattle.fast_check_finder_demands.specs.symbol_demands.Demands.{Demand, Asked, by_reference, as_child, by_path}
use Rattle.fast_check_finder_demands.specs.symbol_demands.Decls.{binds, is_implementation}
use Rattle.fast_check_finder_demands.specs.Yields.{decl_ranges, stands_outside, ranges_at, export_ranges, property_ranges, symbol_ranges}
use Rattle.fast_check_finder_demands.specs.Yields.{asked_ranges, ranges, symbol_implementations, asked_implementations, implementations}
use Rattle.fast_check_finder_demands.specs.Yields.{AreTableRanges}
use Rattle.fast_check_finder_demands.proofs.Elements.{first, later, in_map, in_flat}
use Rattle.fast_check_finder_demands.proofs.Each.{Each, each_nil, each_append, each_map, each_flat, each_cond, each_each_of, each_filter}

-- what is found is there
pub last_inside : {X : Type 0} (test : X → Bool) (xs : List X) (x : X) → last_that test xs ≡ Some x → Contains xs x
last_inside test [] x e = absurd (none-some x e)
last_inside {X} test (y ∷ ys) x e = ⊎_elim
    (λ deep. later y ys x (last_inside test ys x deep))
    (λ here. first x y ys here)
    (last_or_this (last_that test ys) (test y) y x e)
  where
    last_or_this : {X : Type 0} (o : Option X) (b : Bool) (y x : X) → option_or o (cond b (Some y) None) ≡ Some x → (o ≡ Some x) ⊎ (y ≡ x)
    last_or_this None true y x e = inr (same_Some y x e)
    last_or_this None false y x e = inl e
    last_or_this (Some z) b y x e = inl e

module _ (t : Tables) where
  abbrev Q : SourceRange → Type 0
  Q = Contains (table_ranges t.symbols t.re_exports)

  own_decl : (s : Symbol) → Contains t.symbols s → Each (λ (x : SymbolDecl). Q x.range) s.decls.items
  own_decl s h x g = Contains-append_left (flat_map (λ y. map (λ d. d.range) y.decls.items) t.symbols)
      (map (λ n. n.range) t.re_exports) x.range
      (in_flat (λ y. map (λ d. d.range) y.decls.items) t.symbols s x.range h (in_map (λ d. d.range) s.decls.items x g))

  own_all : (decls : List SymbolDecl) → Each (λ (x : SymbolDecl). Q x.range) decls → Each Q (decl_ranges decls)
  own_all decls f = each_map Q (λ x. x.range) decls f

  own_exports : (exports : List (Name × SymbolId)) → Each Q (export_ranges t exports)
  own_exports exports = each_flat Q (λ e. ranges_at t e.1) exports
      (λ e _. each_each_of Q (λ s. decl_ranges s.decls.items) (symbol_of e.1 t.symbols)
      (λ s u. own_all s.decls.items (own_decl s (last_inside (has_id e.1) t.symbols s u))))

  own_filtered : (test : SymbolDecl → Bool) (s : Symbol) → Contains t.symbols s → Each Q (decl_ranges (filter test s.decls.items))
  own_filtered test s h = own_all (filter test s.decls.items)
      (each_filter (λ (x : SymbolDecl). Q x.range) test s.decls.items (own_decl s h))

  own_symbol : (n : Namespaces) (s : Symbol) → Contains t.symbols s → Each Q (symbol_ranges t n s)
  own_symbol n s h = each_cond Q s.is_private_member [] (decl_ranges (filter (λ x. binds x n) s.decls.items) ++ property_ranges t n s)
      (each_nil Q)
      (each_append Q (decl_ranges (filter (λ x. binds x n) s.decls.items)) (property_ranges t n s) (own_filtered (λ x. binds x n) s h)
      (each_filter Q (stands_outside n s.decls.items) (export_ranges t s.exports) (own_exports s.exports)))

  own_asked : (a : Asked) (s : Symbol) → Contains t.symbols s → Each Q (asked_ranges t a s)
  own_asked (by_reference n) s h = own_symbol n s h
  own_asked (as_child n) s h = own_symbol n s h
  own_asked (by_path p e) s h = own_all s.decls.items (own_decl s h)

  pub own_ranges : (d : Demand) → AreTableRanges t (ranges t d)
  own_ranges d = each_each_of Q (asked_ranges t d.asked) (symbol_of d.symbol t.symbols)
      (λ s e. own_asked d.asked s (last_inside (has_id d.symbol) t.symbols s e))

  own_implementing : (n : Namespaces) (s : Symbol) → Contains t.symbols s → Each Q (symbol_implementations n s)
  own_implementing n s h = each_cond Q s.is_private_member [] (decl_ranges (filter (λ x. binds x n && is_implementation x) s.decls.items))
      (each_nil Q)
      (own_filtered (λ x. binds x n && is_implementation x) s h)

  own_asked_implementations : (a : Asked) (s : Symbol) → Contains t.symbols s → Each Q (asked_implementations a s)
  own_asked_implementations (by_reference n) s h = own_implementing n s h
  own_asked_implementations (as_child n) s h = own_implementing n s h
  own_asked_implementations (by_path p e) s h = each_nil Q

  pub own_implementations : (d : Demand) → AreTableRanges t (implementations t d)
  own_implementations d = each_each_of Q (asked_implementations d.asked) (symbol_of d.symbol t.symbols)
      (λ s e. own_asked_implementations d.asked s (last_inside (has_id d.symbol) t.symbols s e))
