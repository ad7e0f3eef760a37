-- A symbol makes public what its declarations make public one by one: each its own range, and each function the properties that
-- stand outside of it.
use Rattle.std.proofs.Common.{◌≡◌, ◌∙◌, ◌↔◌, sym, ap, refl, subst, Bool, true, false, cond, not, ◌&&◌, List, [], ◌∷◌, ◌++◌, ⊎_elim}
use Rattle.std.specs.List.{Contains, filter, flat_map}
use Rattle.std.proofs.lemmas.Bool.{and_parts}
use Rattle.std.proofs.lemmas.List.Elements.{Contains-append_left, Contains-append_right, Contains-append_cases}
use Rattle.fast_check_tree_syntax.specs.declared.source.SourceRange.{SourceRange}
use Rattle.fast_check_tables_symbols.specs.declared.symbol.Symbol.{Symbol}
use Rattle.fast_check_tables_symbols.specs.declared.decl.SymbolDecl.{SymbolDecl}
use Rattle.fast_check_tables_symbols.specs.Tables.{Tables}
use Rattle.fast_check_tables_symbols.proofs.Witness.{present, witness}
use Rattle.fast_check_finder_demands.specs.declared.symbol_demands.demand.Namespaces.{Namespaces}
use Rattle.fast_check_finder_demands.specs.symbol_demands.Decls.{binds, is_implementation, is_function}
use Rattle.fast_check_finder_demands.specs.Yields.{decl_ranges, is_within, has_properties, stands_outside, export_ranges, property_ranges}
use Rattle.fast_check_finder_demands.specs.Yields.{symbol_ranges}
use Rattle.fast_check_finder_demands.proofs.Elements.{no_element, first, later, cases, in_map, of_map, in_flat, of_flat, in_filter, of_filter}

module _ (t : Tables) (n : Namespaces) (s : Symbol) where
  abbrev bound : List SourceRange
  bound = decl_ranges (filter (λ x. binds x n) s.decls.items)

  abbrev is_plain : SymbolDecl → Bool
  is_plain x = is_function x && not (is_implementation x)

  -- the properties of a function that stand outside of one of its declarations
  abbrev properties_outside : SymbolDecl → List SourceRange
  properties_outside x = filter (λ r. not (is_within x.range r)) (export_ranges t s.exports)

  -- what a declaration makes public by itself
  abbrev decl_yields : SymbolDecl → List SourceRange
  decl_yields x = cond (binds x n) (x.range ∷ cond (is_plain x) (properties_outside x) []) []

  abbrev all_yields : List SourceRange
  all_yields = cond s.is_private_member [] (flat_map decl_yields s.decls.items)

  yields_own : (x : SymbolDecl) (r : SourceRange) → binds x n ≡ true → x.range ≡ r → Contains (decl_yields x) r
  yields_own x r b e = subst
      (λ (k : Bool). Contains (cond k (x.range ∷ cond (is_plain x) (properties_outside x) []) []) r) (sym b)
      (first r x.range (cond (is_plain x) (properties_outside x) []) e)

  yields_property : (x : SymbolDecl) (r : SourceRange) → has_properties n x ≡ true → Contains (properties_outside x) r →
      Contains (decl_yields x) r
  yields_property x r h c =
      let e = and_parts (binds x n) (is_plain x) h in
      subst
      (λ (k : Bool). Contains (cond k (x.range ∷ cond (is_plain x) (properties_outside x) []) []) r) (sym e.0)
      (later x.range _ r (subst (λ (k : Bool). Contains (cond k (properties_outside x) []) r) (sym e.1) c))

  yielded : (r : SourceRange) → Contains (bound ++ property_ranges t n s) r →
      Contains (flat_map decl_yields s.decls.items) r
  yielded r c = ⊎_elim own property (Contains-append_cases bound (property_ranges t n s) r c)
    where
      own : Contains bound r → Contains (flat_map decl_yields s.decls.items) r
      own d =
          let m = of_map (λ x. x.range) (filter (λ x. binds x n) s.decls.items) r d in
          let f = of_filter (λ x. binds x n) s.decls.items m.0 m.1 in
          in_flat decl_yields s.decls.items m.0 r f.0 (yields_own m.0 r f.1 m.2)

      property : Contains (property_ranges t n s) r → Contains (flat_map decl_yields s.decls.items) r
      property d =
          let f = of_filter (stands_outside n s.decls.items) (export_ranges t s.exports) r d in
          let m = witness (λ x. has_properties n x && not (is_within x.range r)) s.decls.items f.1 in
          let e = and_parts (has_properties n m.0) (not (is_within m.0.range r)) m.2 in
          in_flat decl_yields s.decls.items m.0 r m.1 (yields_property m.0 r e.0
          (in_filter (λ r. not (is_within m.0.range r)) (export_ranges t s.exports) r f.0 e.1))

  made : (x : SymbolDecl) (r : SourceRange) → Contains s.decls.items x → Contains (decl_yields x) r →
      Contains (bound ++ property_ranges t n s) r
  made x r c d = by (binds x n) (is_plain x) refl refl d
    where
      property : has_properties n x ≡ true → Contains (properties_outside x) r → Contains (property_ranges t n s) r
      property h p =
          let f = of_filter (λ r. not (is_within x.range r)) (export_ranges t s.exports) r p in
          in_filter (stands_outside n s.decls.items) (export_ranges t s.exports) r f.0
          (present (λ x. has_properties n x && not (is_within x.range r)) s.decls.items x c
          (ap (λ b. b && not (is_within x.range r)) h ∙ f.1))

      by : (b f : Bool) → binds x n ≡ b → is_plain x ≡ f →
          Contains (cond b (x.range ∷ cond f (properties_outside x) []) []) r →
          Contains (bound ++ property_ranges t n s) r
      by false f k h d = absurd (no_element r d)
      by true f k h d = ⊎_elim
          (λ is. Contains-append_left bound (property_ranges t n s) r
          (subst (λ (z : SourceRange). Contains bound z) is
          (in_map (λ x. x.range) (filter (λ x. binds x n) s.decls.items) x (in_filter (λ x. binds x n) s.decls.items x c k))))
          (λ there. Contains-append_right bound (property_ranges t n s) r
          (among f h there))
          (cases x.range (cond f (properties_outside x) []) r d)
        where
          among : (f : Bool) → is_plain x ≡ f → Contains (cond f (properties_outside x) []) r →
              Contains (property_ranges t n s) r
          among false h p = absurd (no_element r p)
          among true h p = property (ap (λ b. b && is_plain x) k ∙ h) p

  made_all : (r : SourceRange) → Contains (flat_map decl_yields s.decls.items) r →
      Contains (bound ++ property_ranges t n s) r
  made_all r c = let m = of_flat decl_yields s.decls.items r c in made m.0 r m.1 m.2

  pub one_by_one : (r : SourceRange) → Contains (symbol_ranges t n s) r ↔ Contains all_yields r
  one_by_one r = by s.is_private_member
    where
      by : (b : Bool) → Contains (cond b [] (bound ++ property_ranges t n s)) r ↔
          Contains (cond b [] (flat_map decl_yields s.decls.items)) r
      by true = (λ c. c, λ c. c)
      by false = (yielded r, made_all r)
