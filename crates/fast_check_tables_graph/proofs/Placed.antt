-- What the test for misplaced modules says.
use Rattle.std.proofs.Common.{◌≡◌, ◌∙◌, sym, ap, true, false, not, Some, ⊎_elim}
use Rattle.std.specs.List.{list_any, Contains}
use Rattle.std.specs.Option.{option_or}
use Rattle.std.specs.Ordering.{nat_cmp, eq_by_cmp}
use Rattle.std.specs.Cmp.{IsTotalOrder, eq_by_cmp_equiv, on_total}
use Rattle.std.specs.Cmp.Lexicographic.{slice_cmp, nat_list_cmp_total, nat_list_eq_equiv, texts_ties}
use Rattle.std.specs.BTreeMap.{BTreeMap, keys, IsOrdered}
use Rattle.std.proofs.lemmas.Bool.{cases_Bool}
use Rattle.std.proofs.lemmas.Map.Keys.{IsDistinct-from_sorted}
use Rattle.std.proofs.lemmas.Map.Views.{lookup-from_Contains}
use Rattle.url.specs.Parts.{Parts, serialize}
use Rattle.fast_check_tables_modules.proofs.symbol_proofs.Alike.{lookup_alike}
use Rattle.fast_check_tables_modules.proofs.symbol_proofs.Witness.{witness, none_of}
use Rattle.fast_check_tables_graph.specs.declared.root_symbol.AnyModuleInfo.{AnyModuleInfo}
use Rattle.fast_check_tables_graph.specs.declared.root_symbol.RootSymbol.{RootSymbol}
use Rattle.fast_check_tables_graph.specs.Graph.{is_specifier}
use Rattle.fast_check_tables_graph.specs.ModuleNames.{specifier_of, is_misplaced, HasMisplaced, StandUnderOwnNames, module_named, module_aliased}
use Rattle.fast_check_tables_graph.specs.Root.{AreFoundByOwnNames}

pub misplaced : (m : BTreeMap Parts AnyModuleInfo) → list_any is_misplaced m.entries ≡ true → HasMisplaced m
misplaced m e = let w = witness is_misplaced m.entries e in record { entry = w.0; among = w.1; differs = w.2 }

pub well_placed : (m : BTreeMap Parts AnyModuleInfo) → list_any is_misplaced m.entries ≡ false → StandUnderOwnNames m
well_placed m e h = none_of is_misplaced m.entries h.entry e h.among h.differs

module _ (m : BTreeMap Parts AnyModuleInfo) (placed : list_any is_misplaced m.entries ≡ false) where
  -- the key of an entry is its module's name
  own_key : (e : Parts × AnyModuleInfo) → Contains m.entries e → is_specifier e.0 (specifier_of e.1) ≡ true
  own_key e h = ⊎_elim (λ y. y) (λ n. absurd (none_of is_misplaced m.entries e placed h (ap not n)))
      (cases_Bool (is_specifier e.0 (specifier_of e.1)))

  own_module_found : IsOrdered (λ (a b : Parts). slice_cmp nat_cmp (serialize a) (serialize b)) m → (e : Parts × AnyModuleInfo) →
      Contains m.entries e →
      module_named m.entries (specifier_of e.1) ≡ Some e.1
  own_module_found ordered e h = let total : IsTotalOrder (λ (a b : Parts). slice_cmp nat_cmp (serialize a) (serialize b)) =
      on_total serialize nat_list_cmp_total in
      lookup_alike (is_specifier (specifier_of e.1))
      (eq_by_cmp (λ (a b : Parts). slice_cmp nat_cmp (serialize a) (serialize b)) e.0) m.entries
      (λ k. sym (nat_list_eq_equiv.congr (serialize e.0) (serialize (specifier_of e.1)) (serialize k) (own_key e h)) ∙
      texts_ties (serialize e.0) (serialize k))
      ∙ lookup-from_Contains (eq_by_cmp_equiv total) e.0 e.1 m.entries
      (IsDistinct-from_sorted (λ (a b : Parts). slice_cmp nat_cmp (serialize a) (serialize b)) (keys m) ordered) h

-- each module is found by its own name
pub found_by_own_names : (r : RootSymbol) → IsOrdered (λ (a b : Parts). slice_cmp nat_cmp (serialize a) (serialize b)) r.modules →
    list_any is_misplaced r.modules.entries ≡ false → AreFoundByOwnNames r
found_by_own_names r ordered placed e h =
    ap (λ o. option_or o (module_aliased r.modules.entries r.aliases.entries (specifier_of e.1)))
    (own_module_found r.modules placed ordered e h)
