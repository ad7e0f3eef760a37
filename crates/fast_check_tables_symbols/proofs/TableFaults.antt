-- What the tests for faults say of tables.
use Rattle.std.proofs.Common.{◌≡◌, ◌∙◌, sym, ap, refl, subst, ⊎_elim, inl, inr, Bool, true, false, cond, ◌||◌, List, [], ◌∷◌, ◌++◌, Some}
use Rattle.std.specs.Prelude.{unwrap_or}
use Rattle.std.specs.BTreeMap.{BTreeMap, get, keys, IsOrdered}
use Rattle.std.specs.Cmp.{IsTotalOrder, eq_by_cmp_equiv, on_total, nat_cmp_total}
use Rattle.std.specs.List.{Contains, list_any, flat_map}
use Rattle.std.specs.Map.{lookup, values_of}
use Rattle.std.specs.Ordering.{eq_by_cmp}
use Rattle.std.proofs.lemmas.Cmp.{then_total, nat_list_cmp_total}
use Rattle.std.proofs.lemmas.List.Folds.{list_any-append}
use Rattle.std.proofs.lemmas.Map.Keys.{IsDistinct-from_sorted}
use Rattle.std.proofs.lemmas.Map.Made.{Contains-from_values_of}
use Rattle.std.proofs.lemmas.Map.Views.{lookup-from_Contains}
use Rattle.fast_check_tree_syntax.specs.contracts.atom.IdOrd.TheImpl as order
use Rattle.fast_check_tables_symbols.proofs.EntriesMissed.{or_left, or_right}
use Rattle.fast_check_tables_symbols.proofs.Alike.{ids_tie, lookup_alike, made_ids}
use Rattle.fast_check_tables_symbols.specs.Entries.{last_value}
use Rattle.fast_check_tables_symbols.specs.Tables.{same_id}
use Rattle.fast_check_tree_syntax.specs.declared.atom.Id.{Id}
use Rattle.fast_check_tables_symbols.specs.declared.symbol.Symbol.{Symbol}
use Rattle.fast_check_tables_symbols.specs.declared.symbol_id.SymbolId.{SymbolId}
use Rattle.fast_check_tables_symbols.specs.Symbols.{symbol_of, mentioned_by}
use Rattle.fast_check_tables_symbols.specs.declared.tables.ModuleTables.{ModuleTables}
use Rattle.fast_check_tables_symbols.specs.Faults.{is_missing, lacks_declaration}
use Rattle.fast_check_tables_symbols.specs.WellFormed.{LacksDeclaration, MissesSymbol, symbols_of}
use Rattle.fast_check_tables_symbols.proofs.Witness.{first_of, later_of, witness, none_of, is_none_of, none_is, nil_of, nil_is, and_left, and_right, and_both}

-- what a look-up finds is among the values
pub value_found : {K X : Type 0} (f : K → Bool) (es : List (K × X)) (v : X) → lookup f es ≡ Some v → Contains (values_of es) v
value_found f [] v h = cc
value_found {X = X} f (e ∷ es) v h = by (f e.0) (value_found f es v) h
  where
    by : (b : Bool) → (lookup f es ≡ Some v → Contains (values_of es) v) → cond b (Some e.1) (lookup f es) ≡ Some v →
        Contains (e.1 ∷ values_of es) v
    by true rest h = subst (λ (y : X). Contains (e.1 ∷ values_of es) y) (ap (λ o. unwrap_or o v) h) (first_of e.1 (values_of es))
    by false rest h = later_of e.1 v (values_of es) (rest h)

ids_total : IsTotalOrder order.cmp-value.it
ids_total = then_total (on_total (λ (a : Id). a.0) nat_list_cmp_total) (on_total (λ (a : Id). a.1.0) nat_cmp_total)

-- The map of the identifiers has the last entry of each.
module _ (t : ModuleTables) (ids : BTreeMap Id SymbolId) (ordered : IsOrdered order.cmp-value.it ids)
    (made : (key : Id) → get order.cmp-value.it ids key ≡ last_value (λ k. eq_by_cmp order.cmp-value.it k key) t.swc_ids.items) where
  abbrev named : List SymbolId
  named = t.module_symbol ∷ flat_map mentioned_by (symbols_of t)

  abbrev is_lost : SymbolId → Bool
  is_lost = is_missing (symbols_of t)

  abbrev is_any_lost : Bool
  is_any_lost = list_any is_lost (t.module_symbol ∷ (flat_map mentioned_by (symbols_of t) ++ values_of ids.entries))

  in_two : is_any_lost ≡ (list_any is_lost named || list_any is_lost (values_of ids.entries))
  in_two = list_any-append is_lost named (values_of ids.entries)

  last_found : (name : Id) (id : SymbolId) → Contains ids.entries (name, id) → last_value (same_id name) t.swc_ids.items ≡ Some id
  last_found name id h =
      sym (made_ids ids t.swc_ids.items made name)
      ∙ (lookup_alike (same_id name) (eq_by_cmp order.cmp-value.it name) ids.entries (ids_tie name)
      ∙ lookup-from_Contains (eq_by_cmp_equiv ids_total) name id ids.entries (IsDistinct-from_sorted order.cmp-value.it (keys ids) ordered) h)

  pub misses : is_any_lost ≡ true → MissesSymbol t
  misses e = by (list_any is_lost named) refl (sym in_two ∙ e)
    where
      by : (b : Bool) → list_any is_lost named ≡ b → (b || list_any is_lost (values_of ids.entries)) ≡ true → MissesSymbol t
      by true h r = let w = witness is_lost named h in
          record { id = w.0; mentioned = inl w.1; missing = is_none_of (symbol_of w.0 (symbols_of t)) w.2 }
      by false h r =
          let w = witness is_lost (values_of ids.entries) r in
          let at = Contains-from_values_of ids.entries w.0 w.1 in
          record {
            id = w.0;
            mentioned = inr (at.0, last_found at.0 w.0 at.1);
            missing = is_none_of (symbol_of w.0 (symbols_of t)) w.2;
          }

  pub misses_none : is_any_lost ≡ false → MissesSymbol t → ⊥
  misses_none e m =
      let none : (list_any is_lost named || list_any is_lost (values_of ids.entries)) ≡ false = sym in_two ∙ e in
      let lost = none_is (symbol_of m.id (symbols_of t)) m.missing in
      ⊎_elim (λ among. none_of is_lost named m.id (or_left _ _ none) among lost)
      (λ last. none_of is_lost (values_of ids.entries) m.id (or_right _ _ none)
      (value_found (same_id last.0) ids.entries m.id (made_ids ids t.swc_ids.items made last.0 ∙ last.1)) lost) m.mentioned

pub lacks : (t : ModuleTables) → list_any (lacks_declaration t.module_symbol) (symbols_of t) ≡ true → LacksDeclaration t
lacks t e = let w = witness (lacks_declaration t.module_symbol) (symbols_of t) e in
    record { symbol = w.0; among = w.1; needed = and_right _ _ w.2; undeclared = nil_of w.0.decls.items (and_left _ _ w.2) }

pub lacks_none : (t : ModuleTables) → list_any (lacks_declaration t.module_symbol) (symbols_of t) ≡ false → LacksDeclaration t → ⊥
lacks_none t e l =
    none_of (lacks_declaration t.module_symbol) (symbols_of t) l.symbol e l.among
    (and_both _ _ (nil_is l.symbol.decls.items l.undeclared) l.needed)

-- the same tests, of what the table of symbols has
pub misses_is : (t : ModuleTables) (symbols : List Symbol) (ids : BTreeMap Id SymbolId) (b : Bool) → symbols ≡ symbols_of t
    → b ≡ list_any (is_missing symbols) (t.module_symbol ∷ (flat_map mentioned_by symbols ++ values_of ids.entries))
    → b ≡ list_any (is_missing (symbols_of t)) (t.module_symbol ∷ (flat_map mentioned_by (symbols_of t) ++ values_of ids.entries))
misses_is t symbols ids b e h =
    h ∙ ap (λ (ss : List Symbol). list_any (is_missing ss) (t.module_symbol ∷ (flat_map mentioned_by ss ++ values_of ids.entries))) e

pub lacks_is : (t : ModuleTables) (symbols : List Symbol) (b : Bool) → symbols ≡ symbols_of t
    → b ≡ list_any (lacks_declaration t.module_symbol) symbols → b ≡ list_any (lacks_declaration t.module_symbol) (symbols_of t)
lacks_is t symbols b e h = h ∙ ap (λ (ss : List Symbol). list_any (lacks_declaration t.module_symbol) ss) e
