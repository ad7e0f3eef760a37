-- An index of names, as it grows.
use Rattle.std.proofs.Common.{◌≡◌, ◌∙◌, sym, ap, refl, subst, ℕ, Bool, true, false, cond, is_some, List, Option, Some, None, option_map}
use Rattle.std.proofs.Common.{bytes_eq, true≢false}
use Rattle.std.specs.Borrow.{Bor}
use Rattle.std.specs.BTreeMap as tree
use Rattle.std.specs.BTreeMap.{BTreeMap}
use Rattle.std.specs.Cmp.Lexicographic.{slice_cmp, nat_list_eq_equiv}
use Rattle.std.specs.Ordering.{nat_cmp}
use Rattle.std.specs.Option.{option_or}
use Rattle.std.proofs.lemmas.Map.Text.{btree_map_updates_str}
use Rattle.std.proofs.lemmas.Slice.Eq.{bytes_eq-Decides}
use Rattle.fast_check_finder_lattice.specs.Names.{Name}
use Rattle.fast_check_finder_demands.specs.declared.re_exports.origins.Origin.{Origin}
use Rattle.fast_check_finder_demands.specs.re_exports.Origins.{origin_of, indexed}
use Rattle.fast_check_tables_symbols.proofs.Last.{or_none}

-- what a map by text has
abbrev pub at_text : {X : Type 0} → List ℕ → BTreeMap (Bor (List ℕ)) X → Option X
at_text text map = tree.get_by (λ k. slice_cmp nat_cmp text k.now) map

-- after a key is put
pub put_at : {X : Type 0} (key text : List ℕ) (x : X) (old new : BTreeMap (Bor (List ℕ)) X)
    → tree.UpdatesBy (λ a b. slice_cmp nat_cmp a.now b.now) (λ k. slice_cmp nat_cmp key k.now) old new (Some x)
    → at_text text new ≡ cond (bytes_eq key text) (Some x) (at_text text old)
put_at key text x old new u = btree_map_updates_str key old new (Some x) u text

some_put : {X : Type 0} (b : Bool) (x : X) (o : Option X) → is_some (cond b (Some x) o) ≡ cond b true (is_some o)
some_put true x o = refl
some_put false x o = refl

-- which keys there are after one is put
pub has_at : {X : Type 0} (key text : List ℕ) (x : X) (old new : BTreeMap (Bor (List ℕ)) X)
    → tree.UpdatesBy (λ a b. slice_cmp nat_cmp a.now b.now) (λ k. slice_cmp nat_cmp key k.now) old new (Some x)
    → is_some (at_text text new) ≡ cond (bytes_eq key text) true (is_some (at_text text old))
has_at key text x old new u = ap is_some (put_at key text x old new u) ∙ some_put (bytes_eq key text) x (at_text text old)

none_from : {X : Type 0} (o : Option X) → is_some o ≡ false → o ≡ None
none_from None h = refl
none_from (Some x) h = absurd (true≢false h)

-- a name that is not there is put
pub put_new : (key asked : Name) (x : Origin) (old new : BTreeMap (Bor (List ℕ)) Origin)
    → tree.UpdatesBy (λ a b. slice_cmp nat_cmp a.now b.now) (λ k. slice_cmp nat_cmp key k.now) old new (Some x)
    → is_some (at_text key old) ≡ false
    → indexed asked new ≡ option_or (indexed asked old) (cond (bytes_eq asked key) (Some (origin_of x)) None)
put_new key asked x old new u h =
    ap (option_map origin_of) (put_at key asked x old new u)
    ∙ (go (bytes_eq key asked) (at_text asked old) (λ y. none_from (at_text asked old)
    (subst (λ (t : List ℕ). is_some (at_text t old) ≡ false) ((bytes_eq-Decides key asked).0 y) h))
    ∙ ap (λ b. option_or (indexed asked old) (cond b (Some (origin_of x)) None)) (nat_list_eq_equiv.symm key asked))
  where
    go : (b : Bool) (o : Option Origin) → (b ≡ true → o ≡ None) →
        option_map origin_of (cond b (Some x) o) ≡ option_or (option_map origin_of o) (cond b (Some (origin_of x)) None)
    go true o f = sym (ap (λ p. option_or (option_map origin_of p) (Some (origin_of x))) (f refl))
    go false o f = sym (or_none (option_map origin_of o))

-- one that is there stays
pub put_kept : (key asked : Name) (x : Origin) (names : BTreeMap (Bor (List ℕ)) Origin) → is_some (at_text key names) ≡ true
    → indexed asked names ≡ option_or (indexed asked names) (cond (bytes_eq asked key) (Some (origin_of x)) None)
put_kept key asked x names h =
    go (bytes_eq asked key) (at_text asked names)
    (λ y. subst (λ (t : List ℕ). is_some (at_text t names) ≡ true) (sym ((bytes_eq-Decides asked key).0 y)) h)
  where
    go : (b : Bool) (o : Option Origin) → (b ≡ true → is_some o ≡ true) →
        option_map origin_of o ≡ option_or (option_map origin_of o) (cond b (Some (origin_of x)) None)
    go true None f = absurd (true≢false (sym (f refl)))
    go true (Some y) f = refl
    go false o f = sym (or_none (option_map origin_of o))
