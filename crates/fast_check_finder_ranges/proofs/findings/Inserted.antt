-- How a map grows.
use Rattle.std.proofs.Common.{◌≡◌, ◌∙◌, refl, sym, ap, Bool, true, false, cond, ◌||◌, List, [], ◌∷◌, Option, Some, None}
use Rattle.std.specs.List.{list_any}
use Rattle.std.specs.Option.{is_some}
use Rattle.std.specs.Ordering.{is_eq, match_ordering}
use Rattle.std.specs.declared.cmp.Ordering.{Ordering}
use Rattle.std.specs.declared.cmp.Ordering.TheVariants.{Less, Equal, Greater}
use Rattle.std.specs.BTreeMap.{is_at, insert_entry}
use Rattle.std.specs.Map.{lookup}
use Rattle.std.proofs.lemmas.Bool.{false≢true}
use Rattle.fast_check_finder_ranges.proofs.findings.Bools.{or_assoc}
use Rattle.fast_check_tables_packages.proofs.Found.{or_none}

or_comm : (a b : Bool) → (a || b) ≡ (b || a)
or_comm true true = refl
or_comm true false = refl
or_comm false true = refl
or_comm false false = refl

inserted_at : {K X : Type 0} (test : K × X → Bool) (r : Ordering) (e n : K × X) (es rest : List (K × X)) (o : Option X) →
    cond (is_eq r) (Some e.1) o ≡ None →
    (o ≡ None → list_any test rest ≡ (list_any test es || test n)) →
    list_any test (match_ordering r (n ∷ e ∷ es) ((e.0, n.1) ∷ es) (e ∷ rest)) ≡ (list_any test (e ∷ es) || test n)
inserted_at test Less e n es rest o h g = or_comm (test n) (list_any test (e ∷ es))
inserted_at test Equal e n es rest o h g = absurd (false≢true (sym (ap is_some h)))
inserted_at test Greater e n es rest o h g = ap (λ b. test e || b) (g h) ∙ sym (or_assoc (test e) (list_any test es) (test n))

-- a key that is new
pub inserted : {K X : Type 0} (cmp : K → K → Ordering) (test : K × X → Bool) (es : List (K × X)) (k : K) (v : X) →
    lookup (is_at (cmp k)) es ≡ None →
    list_any test (insert_entry cmp es k v) ≡ (list_any test es || test (k, v))
inserted cmp test [] k v h = or_none (test (k, v))
inserted cmp test (e ∷ es) k v h = inserted_at test (cmp k e.0) e (k, v) es (insert_entry cmp es k v) (lookup (is_at (cmp k)) es) h
    (λ g. inserted cmp test es k v g)
