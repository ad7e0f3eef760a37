-- Keys of demands compare alike where they stand for one thing.
use Rattle.std.proofs.Common.{◌≡◌, ◌∙◌, sym, ap, refl, subst, ℕ, Bool, true, false, ◌==◌, ◌&&◌, ◌||◌, List, [], ◌∷◌, map, length, string_bytes, String}
use Rattle.std.proofs.Common.{◌⊎◌, inl, inr, ⊎_elim, rules}
use Rattle.std.specs.declared.alloc.Global.{Global}
use Rattle.std.specs.declared.cmp.Ordering.{Ordering}
use Rattle.std.specs.declared.cmp.Ordering.TheVariants.{Less, Equal, Greater}
use Rattle.std.specs.BTreeSet.{BTreeSet, contains, insert_key}
use Rattle.std.specs.Ordering.{match_ordering}
use Rattle.std.specs.BTreeMap.{is_at}
use Rattle.std.specs.List.{list_any, Contains}
use Rattle.std.specs.Ordering.{is_eq, nat_cmp, ordering_then}
use Rattle.std.specs.String.{string_cmp}
use Rattle.std.specs.Str.{bytes_eq}
use Rattle.std.specs.Cmp.Lexicographic.{slice_cmp}
use Rattle.std.proofs.lemmas.Bool.{cases_Bool, false≢true, or_left, eq-eqb}
use Rattle.std.proofs.lemmas.List.{length-map}
use Rattle.std.proofs.lemmas.Map.Text.{is_eq-slice_cmp}
use Rattle.fast_check_finder_demands.specs.contracts.symbol_demands.demand.NamespacesOrd.TheImpl as namespace_order
use Rattle.fast_check_finder_demands.specs.contracts.symbol_demands.demand.ExtentOrd.TheImpl as extent_order
use Rattle.fast_check_finder_demands.specs.declared.symbol_demands.demand.Namespaces.{Namespaces}
use Rattle.fast_check_finder_demands.specs.declared.symbol_demands.demand.Namespaces.TheVariants.{Value, Type_, Both}
use Rattle.fast_check_finder_demands.specs.declared.symbol_demands.demand.Extent.{Extent}
use Rattle.fast_check_finder_demands.specs.declared.symbol_demands.demand.Extent.TheVariants.{Touched, Whole}
use Rattle.fast_check_finder_demands.specs.symbol_demands.Demands.{Demand}
use Rattle.fast_check_finder_demands.specs.Account.{same_namespaces, same_extent, same_path, same, essence, alike, referred}
use Rattle.fast_check_finder_demands.proofs.Elements.{in_map as contains_map}
use Rattle.fast_check_finder_demands.proofs.asked.Maps.{none_in, first_in, rest_in, split_in}
use Rattle.fast_check_finder_loop.specs.contracts.asked.AskedSymbolOrd.TheImpl as order
use Rattle.fast_check_finder_loop.specs.declared.asked.AskedAs.{AskedAs}
use Rattle.fast_check_finder_loop.specs.declared.asked.AskedAs.TheVariants.{Reference, Child, Path as ByPath}
use Rattle.fast_check_finder_loop.specs.declared.asked.AskedSymbol.{AskedSymbol}
use Rattle.fast_check_finder_loop.specs.declared.asked.NamePath.{NamePath}
use Rattle.fast_check_finder_loop.specs.Asked.{demand_at, covers, IsOneMore}
use Rattle.fast_check_finder_loop.specs.NameOrder.{names_cmp}
use Rattle.fast_check_finder_loop.proofs.Same.{same_paths}

pub then_equal : (a b : Ordering) → is_eq (ordering_then a b) ≡ (is_eq a && is_eq b)
then_equal Less b = refl
then_equal Equal b = refl
then_equal Greater b = refl

and_same : (a b c d : Bool) → a ≡ b → c ≡ d → (a && c) ≡ (b && d)
and_same a b c d e f = cc

pub numbers_compare : (a b : ℕ) → is_eq (nat_cmp a b) ≡ (a == b)
numbers_compare a b = search rules

namespaces_compare : (a b : Namespaces) → is_eq (namespace_order.cmp-value.it a b) ≡ same_namespaces a b
namespaces_compare Value Value = refl
namespaces_compare Value Type_ = refl
namespaces_compare Value Both = refl
namespaces_compare Type_ Value = refl
namespaces_compare Type_ Type_ = refl
namespaces_compare Type_ Both = refl
namespaces_compare Both Value = refl
namespaces_compare Both Type_ = refl
namespaces_compare Both Both = refl

extents_compare : (a b : Extent) → is_eq (extent_order.cmp-value.it a b) ≡ same_extent a b
extents_compare Touched Touched = refl
extents_compare Touched Whole = refl
extents_compare Whole Touched = refl
extents_compare Whole Whole = refl

paths_compare : (xs ys : List (String Global)) → is_eq (slice_cmp string_cmp xs ys) ≡ same_path (map string_bytes xs) (map string_bytes ys)
paths_compare [] [] = refl
paths_compare [] (y ∷ ys) = refl
paths_compare (x ∷ xs) [] = refl
paths_compare (x ∷ xs) (y ∷ ys) =
    then_equal (string_cmp x y) (slice_cmp string_cmp xs ys) ∙
    and_same _ (bytes_eq (string_bytes x) (string_bytes y)) _ (same_path (map string_bytes xs) (map string_bytes ys))
    (is_eq-slice_cmp (string_bytes x) (string_bytes y)) (paths_compare xs ys)

absorbed : (a b : Bool) → (b ≡ true → a ≡ true) → (a && b) ≡ b
absorbed true b h = refl
absorbed false true h = absurd (false≢true (h refl))
absorbed false false h = refl

names_compare : (k l : NamePath) → is_eq (names_cmp k l) ≡ same_path (map string_bytes k.names.now) (map string_bytes l.names.now)
names_compare k l =
    let p = map string_bytes k.names.now in
    let q = map string_bytes l.names.now in
    let m = length k.names.now in
    let n = length l.names.now in
    then_equal (nat_cmp m n) (slice_cmp string_cmp k.names.now l.names.now) ∙
    (and_same _ (m == n) _ (same_path p q) (numbers_compare m n) (paths_compare k.names.now l.names.now) ∙
    absorbed (m == n) (same_path p q) (λ t. eq-eqb m n (sym (length-map k.names.now string_bytes) ∙
    (ap length (same_paths p q t) ∙ length-map l.names.now string_bytes))))

once : (p q : Bool) → (p && q) ≡ (p && (q && p))
once true true = refl
once true false = refl
once false q = refl

parted : (p q r : Bool) → (p && (q && r)) ≡ ((p && q) && r)
parted true q r = refl
parted false q r = refl

abbrev key : ℕ → AskedAs → AskedSymbol
key s a = record { symbol = record { 0 = s }; asked = a }

each_compare : (s t : ℕ) (a b : AskedAs) → is_eq (order.cmp-value.it (key s a) (key t b)) ≡ same (demand_at (key s a)) (demand_at (key t b))
each_compare s t (Reference n) (Reference m) = then_equal (nat_cmp s t) (namespace_order.cmp-value.it n m) ∙
    (and_same _ (s == t) _ (same_namespaces n m) (numbers_compare s t) (namespaces_compare n m) ∙ once (s == t) (same_namespaces n m))
each_compare s t (Reference n) (Child m) = then_equal (nat_cmp s t) _ ∙ and_same _ (s == t) _ false (numbers_compare s t) refl
each_compare s t (Reference n) (ByPath l y u) = then_equal (nat_cmp s t) _ ∙ and_same _ (s == t) _ false (numbers_compare s t) refl
each_compare s t (Child n) (Reference m) = then_equal (nat_cmp s t) _ ∙ and_same _ (s == t) _ false (numbers_compare s t) refl
each_compare s t (Child n) (Child m) = then_equal (nat_cmp s t) (namespace_order.cmp-value.it n m) ∙
    (and_same _ (s == t) _ (same_namespaces n m) (numbers_compare s t) (namespaces_compare n m) ∙ once (s == t) (same_namespaces n m))
each_compare s t (Child n) (ByPath l y u) = then_equal (nat_cmp s t) _ ∙ and_same _ (s == t) _ false (numbers_compare s t) refl
each_compare s t (ByPath k x r) (Reference m) = then_equal (nat_cmp s t) _ ∙ and_same _ (s == t) _ false (numbers_compare s t) refl
each_compare s t (ByPath k x r) (Child m) = then_equal (nat_cmp s t) _ ∙ and_same _ (s == t) _ false (numbers_compare s t) refl
each_compare s t (ByPath k x r) (ByPath l y u) =
    let c = ordering_then (extent_order.cmp-value.it x y) (nat_cmp r.0 u.0) in
    let p = map string_bytes k.names.now in
    let q = map string_bytes l.names.now in
    then_equal (nat_cmp s t) (ordering_then (names_cmp k l) c) ∙
    and_same _ (s == t) _ ((same_path p q && same_extent x y) && (r.0 == u.0)) (numbers_compare s t)
    (then_equal (names_cmp k l) c ∙
    (and_same _ (same_path p q) _ (same_extent x y && (r.0 == u.0)) (names_compare k l)
    (then_equal (extent_order.cmp-value.it x y) (nat_cmp r.0 u.0) ∙
    and_same _ (same_extent x y) _ (r.0 == u.0) (extents_compare x y) (numbers_compare r.0 u.0)) ∙
    parted (same_path p q) (same_extent x y) (r.0 == u.0)))

keys_compare : (a b : AskedSymbol) → is_eq (order.cmp-value.it a b) ≡ same (demand_at a) (demand_at b)
keys_compare a b = each_compare a.symbol.0 b.symbol.0 a.asked b.asked

-- the demand of a key is its own essence
pub key_essence : (k : AskedSymbol) → essence (demand_at k) ≡ demand_at k
key_essence k = go k.asked
  where
    go : (a : AskedAs) → (λ (j : AskedSymbol). essence (demand_at j) ≡ demand_at j) (record { symbol = k.symbol; asked = a })
    go (Reference n) = refl
    go (Child n) = refl
    go (ByPath p x r) = refl

-- what is found in a set of keys is what these stand for
pub found_key : (d : Demand) (k : AskedSymbol) (set : BTreeSet AskedSymbol) → demand_at k ≡ essence d →
    contains order.cmp-value.it set k ≡ list_any (alike d) (map demand_at set.keys)
found_key d k set e = each set.keys
  where
    each : (ks : List AskedSymbol) → list_any (is_at (order.cmp-value.it k)) ks ≡ list_any (alike d) (map demand_at ks)
    each [] = refl
    each (j ∷ ks) =
        ap (λ b. b || list_any (is_at (order.cmp-value.it k)) ks)
        (keys_compare k j ∙ (ap (λ x. same x (demand_at j)) e ∙ ap (λ x. same (essence d) x) (sym (key_essence j)))) ∙
        ap (λ b. alike d (demand_at j) || b) (each ks)

any_or : (f g : Demand → Bool) (xs : List Demand) → (list_any f xs || list_any g xs) ≡ list_any (λ x. f x || g x) xs
any_or f g [] = refl
any_or f g (x ∷ xs) = swap (f x) (list_any f xs) (g x) (list_any g xs) ∙ ap (λ b. (f x || g x) || b) (any_or f g xs)
  where
    swap : (a b c d : Bool) → ((a || b) || (c || d)) ≡ ((a || c) || (b || d))
    swap true b c d = refl
    swap false true true d = refl
    swap false true false d = refl
    swap false false c d = refl

-- and so by either of two keys
pub found_either : (d : Demand) (k j : AskedSymbol) (set : BTreeSet AskedSymbol) → demand_at k ≡ essence d → demand_at j ≡ essence (referred d) →
    (contains order.cmp-value.it set k || contains order.cmp-value.it set j) ≡ list_any (covers d) (map demand_at set.keys)
found_either d k j set e f =
    ap (λ b. b || contains order.cmp-value.it set j) (found_key d k set e)
    ∙ (ap (λ b. list_any (alike d) (map demand_at set.keys) || b) (found_key (referred d) j set f)
    ∙ any_or (alike d) (alike (referred d)) (map demand_at set.keys))

pub found_first : (d : Demand) (k : AskedSymbol) (set : BTreeSet AskedSymbol) → demand_at k ≡ essence d → true ≡ contains order.cmp-value.it set k →
    contains order.cmp-value.it set k ≡ list_any (covers d) (map demand_at set.keys)
found_first d k set e t =
    sym t ∙ (sym (or_left (list_any (alike d) (map demand_at set.keys)) (list_any (alike (referred d)) (map demand_at set.keys))
    (sym (found_key d k set e) ∙ sym t)) ∙ any_or (alike d) (alike (referred d)) (map demand_at set.keys))

pub found_second : (d : Demand) (k j : AskedSymbol) (set : BTreeSet AskedSymbol) → demand_at k ≡ essence d → demand_at j ≡ essence (referred d) →
    false ≡ contains order.cmp-value.it set k → contains order.cmp-value.it set j ≡ list_any (covers d) (map demand_at set.keys)
found_second d k j set e f n = ap (λ b. b || contains order.cmp-value.it set j) n ∙ found_either d k j set e f

-- members of mapped keys
pub in_map : (ks : List AskedSymbol) (k : AskedSymbol) → Contains ks k → Contains (map demand_at ks) (demand_at k)
in_map ks k c = contains_map demand_at ks k c

pub of_map : (ks : List AskedSymbol) (d : Demand) → Contains (map demand_at ks) d → (k : AskedSymbol) × Contains ks k × (demand_at k ≡ d)
of_map [] d c = absurd (none_in d c)
of_map (k ∷ ks) d c =
    ⊎_elim (λ e. (k, first_in k ks, e)) (λ r. let x = of_map ks d r in (x.0, rest_in k x.0 ks x.1, x.2))
    (split_in (demand_at k) d (map demand_at ks) c)

-- a key at its place in the order

pub key_kept : {K : Type 0} (R : K → K → Ordering) (ks : List K) (k x : K) → Contains ks x → Contains (insert_key R ks k) x
key_kept R [] k x c = absurd (none_in x c)
key_kept {K} R (y ∷ ks) k x c = go (λ r. key_kept R ks k x r) (R k y)
  where
    go : (Contains ks x → Contains (insert_key R ks k) x) → (o : Ordering) → Contains (match_ordering o (k ∷ y ∷ ks) (y ∷ ks) (y ∷ insert_key R ks k)) x
    go below Less = rest_in k x (y ∷ ks) c
    go below Equal = c
    go below Greater = ⊎_elim (λ e. subst (λ (z : K). Contains (y ∷ insert_key R ks k) z) e (first_in y (insert_key R ks k)))
        (λ r. rest_in y x (insert_key R ks k) (below r)) (split_in y x ks c)

pub key_only : {K : Type 0} (R : K → K → Ordering) (ks : List K) (k x : K) → Contains (insert_key R ks k) x → Contains ks x ⊎ (k ≡ x)
key_only R [] k x c = ⊎_elim (λ e. inr e) (λ r. absurd (none_in x r)) (split_in k x [] c)
key_only {K} R (y ∷ ks) k x c = go (λ r. key_only R ks k x r) (R k y) c
  where
    go : (Contains (insert_key R ks k) x → Contains ks x ⊎ (k ≡ x)) → (o : Ordering) → Contains (match_ordering o (k ∷ y ∷ ks) (y ∷ ks) (y ∷ insert_key R ks k)) x → Contains (y ∷ ks) x ⊎ (k ≡ x)
    go below Less h = ⊎_elim (λ e. inr e) (λ r. inl r) (split_in k x (y ∷ ks) h)
    go below Equal h = inl h
    go below Greater h =
        ⊎_elim (λ e. inl (subst (λ (z : K). Contains (y ∷ ks) z) e (first_in y ks)))
        (λ r. ⊎_elim (λ o. inl (rest_in y x ks o)) (λ e. inr e) (below r)) (split_in y x (insert_key R ks k) h)

key_here : {K : Type 0} (R : K → K → Ordering) (ks : List K) (k : K) → list_any (is_at (R k)) ks ≡ false → Contains (insert_key R ks k) k
key_here R [] k h = first_in k []
key_here {K} R (y ∷ ks) k h = go (λ e. key_here R ks k e) (R k y) h
  where
    go : (list_any (is_at (R k)) ks ≡ false → Contains (insert_key R ks k) k) → (o : Ordering) → (is_eq o || list_any (is_at (R k)) ks) ≡ false → Contains (match_ordering o (k ∷ y ∷ ks) (y ∷ ks) (y ∷ insert_key R ks k)) k
    go below Less e = first_in k (y ∷ ks)
    go below Equal e = absurd (false≢true (sym e))
    go below Greater e = rest_in y k (insert_key R ks k) (below e)

-- the key stands there, or one that ties with it
pub key_tied : {K : Type 0} (R : K → K → Ordering) (ks : List K) (k : K) → (y : K) × Contains (insert_key R ks k) y × ((k ≡ y) ⊎ (R k y ≡ Equal))
key_tied R [] k = (k, first_in k [], inl refl)
key_tied {K} R (y ∷ ks) k = go (R k y) refl (key_tied R ks k)
  where
    go : (o : Ordering) → R k y ≡ o → (z : K) × Contains (insert_key R ks k) z × ((k ≡ z) ⊎ (R k z ≡ Equal)) →
        (z : K) × Contains (match_ordering o (k ∷ y ∷ ks) (y ∷ ks) (y ∷ insert_key R ks k)) z × ((k ≡ z) ⊎ (R k z ≡ Equal))
    go Less e s = (k, first_in k (y ∷ ks), inl refl)
    go Equal e s = (y, first_in y ks, inr e)
    go Greater e s = (s.0, rest_in y s.0 (insert_key R ks k) s.1, s.2)

-- one demand more, where its key was not there
pub one_more : (d : Demand) (k : AskedSymbol) (old new : BTreeSet AskedSymbol) → demand_at k ≡ essence d →
    new.keys ≡ insert_key order.cmp-value.it old.keys k → list_any (covers d) (map demand_at old.keys) ≡ false →
    IsOneMore d (map demand_at old.keys) (map demand_at new.keys)
one_more d k old new e is was = record {
  was = was;
  here = subst (λ (x : Demand). Contains (map demand_at new.keys) x) e (in_map new.keys k (there k (key_here order.cmp-value.it old.keys k lacks)));
  kept = λ x c. let o = of_map old.keys x c in
      subst (λ (y : Demand). Contains (map demand_at new.keys) y) o.2 (in_map new.keys o.0 (there o.0 (key_kept order.cmp-value.it old.keys k o.0 o.1)));
  only = λ x c.
      let o = of_map new.keys x c in
      ⊎_elim (λ h. inl (subst (λ (y : Demand). Contains (map demand_at old.keys) y) o.2 (in_map old.keys o.0 h)))
      (λ h. inr (sym o.2 ∙ (sym (ap demand_at h) ∙ e)))
      (key_only order.cmp-value.it old.keys k o.0 (subst (λ (ks : List AskedSymbol). Contains ks o.0) is o.1));
}
  where
    there : (x : AskedSymbol) → Contains (insert_key order.cmp-value.it old.keys k) x → Contains new.keys x
    there x c = subst (λ (ks : List AskedSymbol). Contains ks x) (sym is) c

    none_of : (f g : Demand → Bool) (xs : List Demand) → list_any (λ x. f x || g x) xs ≡ false → list_any f xs ≡ false
    none_of f g xs h = ⊎_elim (λ t. absurd (false≢true (sym h ∙ (sym (any_or f g xs) ∙ or_left (list_any f xs) (list_any g xs) t)))) (λ n. n)
        (cases_Bool (list_any f xs))

    lacks : list_any (is_at (order.cmp-value.it k)) old.keys ≡ false
    lacks = found_key d k old e ∙ none_of (alike d) (alike (referred d)) (map demand_at old.keys) was
