-- Identifiers that are the same.
use Rattle.std.proofs.Common.{◌≡◌, ◌∙◌, sym, ap, refl, Bool, true, false, ◌==◌, cond, List, [], ◌∷◌, ◌++◌, Some, None}
use Rattle.std.specs.Cmp.{unsigned_Decides}
use Rattle.std.specs.Map.{lookup, set_value}
use Rattle.std.specs.Str.{bytes_eq}
use Rattle.std.proofs.lemmas.Slice.Eq.{bytes_eq-Decides}
use Rattle.fast_check_tree_syntax.specs.declared.atom.Id.{Id}
use Rattle.fast_check_tables_modules.specs.symbols.Tables.{same_id}
use Rattle.fast_check_meaning_expandos.specs.declared.namespaces.Namespace.{Namespace}
use Rattle.fast_check_meaning_expandos.specs.declared.properties.ExpandoProperty.{ExpandoProperty}
use Rattle.fast_check_meaning_expandos.specs.Merged.{merged, with_property, placed_property}
use Rattle.fast_check_tables_symbols.proofs.Witness.{and_right as right_of, and_left as left_of}

pub one_id : (a b : Id) → same_id a b ≡ true → a ≡ b
one_id a b e =
    let text = (bytes_eq-Decides a.0 b.0).0 (left_of (bytes_eq a.0 b.0) (a.1.0 == b.1.0) e) in
    let scope = (unsigned_Decides a.1.0 b.1.0).0 (right_of (bytes_eq a.0 b.0) (a.1.0 == b.1.0) e) in
    λ i. record { 0 = text i; 1 = record { 0 = scope i } }

some_is_none : {N : Type 0} {n : N} → Some n ≡ None → ⊥
some_is_none h = cc

inside : {N : Type 0} {m k : N} → Some m ≡ Some k → m ≡ k
inside h = cc

-- what is found behind an entry
found_behind : (id : Id) (x : Id × Namespace) (es : List (Id × Namespace)) (b : Bool) → same_id id x.0 ≡ b →
    lookup (same_id id) (x ∷ es) ≡ cond b (Some x.1) (lookup (same_id id) es)
found_behind id x es b f = ap (λ c. cond c (Some x.1) (lookup (same_id id) es)) f

-- a property of a new object
pub placed_last : (p : ExpandoProperty) (es : List (Id × Namespace)) → lookup (same_id p.object) es ≡ None →
    es ++ (p.object, merged (p ∷ [])) ∷ [] ≡ placed_property p es
placed_last p [] e = refl
placed_last p (x ∷ es) e = by (same_id p.object x.0) refl (placed_last p es)
  where
    by : (b : Bool) → same_id p.object x.0 ≡ b →
        (lookup (same_id p.object) es ≡ None → es ++ (p.object, merged (p ∷ [])) ∷ [] ≡ placed_property p es) →
        x ∷ (es ++ (p.object, merged (p ∷ [])) ∷ []) ≡ placed_property p (x ∷ es)
    by true f rest = absurd (some_is_none (sym (found_behind p.object x es true f) ∙ e))
    by false f rest = ap (λ zs. x ∷ zs) (rest (sym (found_behind p.object x es false f) ∙ e)) ∙ sym (rw f refl)

-- one of an object that is there
pub placed_there : (p : ExpandoProperty) (es : List (Id × Namespace)) (n : Namespace) → lookup (same_id p.object) es ≡ Some n →
    set_value (same_id p.object) es (with_property n p) ≡ placed_property p es
placed_there p [] n e = cc
placed_there p (x ∷ es) n e = by (same_id p.object x.0) refl (placed_there p es n)
  where
    by : (b : Bool) → same_id p.object x.0 ≡ b →
        (lookup (same_id p.object) es ≡ Some n → set_value (same_id p.object) es (with_property n p) ≡ placed_property p es) →
        set_value (same_id p.object) (x ∷ es) (with_property n p) ≡ placed_property p (x ∷ es)
    by true f rest = rw f (ap (λ m. (x.0, with_property m p) ∷ es) (sym (inside (sym (found_behind p.object x es true f) ∙ e))))
    by false f rest = rw f (ap (λ zs. x ∷ zs) (rest (sym (found_behind p.object x es false f) ∙ e)))
