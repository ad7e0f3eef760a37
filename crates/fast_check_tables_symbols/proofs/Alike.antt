-- Tests of identifiers and names, as the maps make them.
use Rattle.std.proofs.Common.{◌≡◌, ◌∙◌, sym, ap, refl, ℕ, Bool, ◌&&◌, cond, List, [], ◌∷◌, map, Some, None, string_bytes}
use Rattle.std.specs.Prelude.{String}
use Rattle.std.specs.Str.{bytes_eq}
use Rattle.std.specs.Map.{lookup}
use Rattle.std.specs.BTreeMap.{BTreeMap, get}
use Rattle.std.specs.String.{string_cmp}
use Rattle.std.specs.Ordering.{nat_cmp, is_eq, ordering_then, eq_by_cmp}
use Rattle.std.specs.Cmp.{unsigned_ties, nat_eq_equiv, and_equiv, on_equiv, IsEquivalence}
use Rattle.std.specs.Cmp.Lexicographic.{slice_cmp, texts_ties, nat_list_eq_equiv}
use Rattle.std.specs.declared.alloc.Global.{Global}
use Rattle.std.specs.declared.cmp.Ordering.{Ordering}
use Rattle.std.specs.declared.cmp.Ordering.TheVariants.{Less, Equal, Greater}
use Rattle.fast_check_tree_syntax.specs.declared.atom.Id.{Id}
use Rattle.fast_check_tree_syntax.specs.contracts.atom.IdOrd.TheImpl as order
use Rattle.fast_check_tables_symbols.specs.Entries.{last_value}
use Rattle.fast_check_tables_symbols.specs.Tables.{same_id}
use Rattle.std.specs.Option.{option_or}

tie : (e f : Bool) (r s : Ordering) → e ≡ is_eq r → f ≡ is_eq s → (e && f) ≡ is_eq (ordering_then r s)
tie e f Less s h k = ap (λ b. b && f) h
tie e f Equal s h k = ap (λ b. b && f) h ∙ k
tie e f Greater s h k = ap (λ b. b && f) h

-- identifiers tie where they are the same
pub ids_tie : (a b : Id) → same_id a b ≡ is_eq (order.cmp-value.it a b)
ids_tie a b = tie _ _ (slice_cmp nat_cmp a.0 b.0) _ (texts_ties a.0 b.0) (unsigned_ties a.1.0 b.1.0)

pub same_id_equiv : IsEquivalence same_id
same_id_equiv = and_equiv (on_equiv (λ a. a.0) nat_list_eq_equiv) (on_equiv (λ a. a.1.0) nat_eq_equiv)

-- tests that answer alike find alike
pub lookup_alike : {K X : Type 0} (f g : K → Bool) (es : List (K × X)) → ((k : K) → f k ≡ g k) → lookup f es ≡ lookup g es
lookup_alike f g [] h = refl
lookup_alike f g (e ∷ es) h = ap (λ b. cond b (Some e.1) (lookup f es)) (h e.0) ∙
    ap (λ o. cond (g e.0) (Some e.1) o) (lookup_alike f g es h)

pub last_alike : {K X : Type 0} (f g : K → Bool) (es : List (K × X)) → ((k : K) → f k ≡ g k) → last_value f es ≡ last_value g es
last_alike f g [] h = refl
last_alike f g (e ∷ es) h =
    ap (λ b. option_or (last_value f es) (cond b (Some e.1) None)) (h e.0)
    ∙ ap (λ o. option_or o (cond (g e.0) (Some e.1) None)) (last_alike f g es h)

-- entries that are seen by the texts of their keys
pub lookup_seen : {X : Type 0} (name : List ℕ) (es : List (String Global × X))
    → lookup (bytes_eq name) (map (λ e. (string_bytes e.0, e.1)) es) ≡ lookup (λ k. bytes_eq name (string_bytes k)) es
lookup_seen name [] = refl
lookup_seen name (e ∷ es) = ap (λ o. cond (bytes_eq name (string_bytes e.0)) (Some e.1) o) (lookup_seen name es)

-- what a map of entries has is the last of each key
pub made_ids : {X : Type 0} (m : BTreeMap Id X) (ps : List (Id × X))
    → ((key : Id) → get order.cmp-value.it m key ≡ last_value (λ k. eq_by_cmp order.cmp-value.it k key) ps) → (id : Id)
    → lookup (same_id id) m.entries ≡ last_value (same_id id) ps
made_ids m ps h id =
    lookup_alike (same_id id) (λ k. is_eq (order.cmp-value.it id k)) m.entries (ids_tie id)
    ∙ (h id ∙ last_alike (λ k. eq_by_cmp order.cmp-value.it k id) (same_id id) ps (λ k. sym (ids_tie k id) ∙ same_id_equiv.symm k id))

pub made_names : {X : Type 0} (m : BTreeMap (String Global) X) (ps : List (String Global × X))
    → ((key : String Global) → get string_cmp m key ≡ last_value (λ k. eq_by_cmp string_cmp k key) ps) →
    (name : String Global) → lookup (bytes_eq (string_bytes name)) (map (λ e. (string_bytes e.0, e.1)) m.entries)
    ≡ last_value (λ k. bytes_eq (string_bytes name) (string_bytes k)) ps
made_names m ps h name =
    lookup_seen (string_bytes name) m.entries
    ∙ (lookup_alike (λ k. bytes_eq (string_bytes name) (string_bytes k)) (λ k. is_eq (string_cmp name k)) m.entries
    (λ k. texts_ties (string_bytes name) (string_bytes k))
    ∙ (h name ∙ last_alike (λ k. eq_by_cmp string_cmp k name) (λ k. bytes_eq (string_bytes name) (string_bytes k)) ps
    (λ k. sym (texts_ties (string_bytes k) (string_bytes name)) ∙ nat_list_eq_equiv.symm (string_bytes k) (string_bytes name))))
