-- The index of a module's symbols, as it grows.
use Rattle.std.proofs.Common.{◌≡◌, ◌∙◌, sym, ap, refl, ℕ, ◌+◌, ◌<◌, true, false, cond, List, [], ◌∷◌, ◌++◌, Option, Some, None, length}
use Rattle.std.proofs.Common.{take, get_or, arith, ◌==◌}
use Rattle.std.specs.Option.{option_copied}
use Rattle.std.specs.Borrow.{Bor}
use Rattle.std.specs.Slice.{IsItemAt}
use Rattle.std.specs.BTreeMap.{BTreeMap, get, Updates}
use Rattle.std.specs.Ordering.{nat_cmp, eq_by_cmp}
use Rattle.std.specs.Cmp.{unsigned_ties, nat_eq_equiv}
use Rattle.std.proofs.lemmas.List.{take_more, length-take-le}
use Rattle.std.proofs.lemmas.Option.{slice_get_within, get_or_from_slice_get}
use Rattle.fast_check_tables_symbols.specs.declared.symbol.Symbol.{Symbol}
use Rattle.fast_check_tables_symbols.specs.Symbols.{has_id, place_of}
use Rattle.fast_check_tables_symbols.specs.Places.{IsIndexed}
use Rattle.fast_check_tables_symbols.proofs.Last.{last_place_push, IsFound}

pub same_number : (k q : ℕ) → eq_by_cmp nat_cmp k q ≡ (q == k)
same_number k q = sym (unsigned_ties k q) ∙ nat_eq_equiv.symm k q

-- one more symbol
pub indexed_more : (symbols : List Symbol) (i : ℕ) (s : Symbol) (old new : BTreeMap ℕ ℕ) → i < length symbols → s ≡ get_or symbols i s
    → Updates nat_cmp old new s.id.0 (Some i) → IsIndexed (take i symbols) old → IsIndexed (take (i + 1) symbols) new
indexed_more symbols i s old new lt read u h = record {
  says = λ id.
      let now : get nat_cmp new id.0 ≡ cond (eq_by_cmp nat_cmp s.id.0 id.0) (Some i) (get nat_cmp old id.0) = u.0 id.0 in
      let longer : take (i + 1) symbols ≡ take i symbols ++ s ∷ [] = take_more symbols i s lt
      ∙ ap (λ (x : Symbol). take i symbols ++ x ∷ []) (sym read) in
      let long : length (take i symbols) ≡ i = length-take-le i symbols (omega arith) in
      now ∙ (ap (λ b. cond b (Some i) (get nat_cmp old id.0)) (same_number s.id.0 id.0)
      ∙ (ap (λ o. cond (has_id id s) (Some i) o) (h.says id)
      ∙ (ap (λ n. cond (has_id id s) (Some n) (place_of id (take i symbols))) (sym long)
      ∙ (sym (last_place_push (has_id id) (take i symbols) s)
      ∙ ap (λ xs. place_of id xs) (sym longer)))));
}

-- what stands at the place that was found
pub got : {X : Type 0} (xs : List X) (i : ℕ) (o : Option X) (r : Option (Bor X)) → IsFound xs o (Some i) → IsItemAt xs i r →
    option_copied r ≡ o
got xs i None r found h = absurd found
got xs i (Some x) None found h = let e : false ≡ true = h.2 (slice_get_within xs i x found) in cc
got xs i (Some x) (Some y) found h = ap Some (h.4 (omega arith) x ∙ get_or_from_slice_get xs i x x found)

pub got_none : {X : Type 0} (xs : List X) (o : Option X) → IsFound xs o None → None ≡ o
got_none xs None found = refl
got_none xs (Some x) found = absurd found
