-- The names of a set as a list.
use Rattle.std.proofs.Common.{◌≡◌, ◌≢◌, ◌∙◌, sym, ap, refl, subst, ⊎_elim, ℕ, zero, suc, ◌+◌, ◌<◌, ◌≤◌, Bool, true, false, cond, List, []}
use Rattle.std.proofs.Common.{◌∷◌, ◌++◌, map, Option, Some, None, String, string_bytes, arith, length, get_or, take, AllPairs}
use Rattle.std.specs.Str.{bytes_eq}
use Rattle.std.specs.declared.alloc.Global.{Global}
use Rattle.std.proofs.lemmas.List.{take_more, take_all, get_or-map, length-map}
use Rattle.fast_check_finder_lattice.specs.declared.lattice.named_subset.Exports.{Exports}
use Rattle.fast_check_finder_lattice.specs.declared.lattice.node.Node.{Node}
use Rattle.fast_check_finder_lattice.specs.Order.{Entry, found, name_at, IsOnce, ArePlaces}
use Rattle.fast_check_finder_lattice.specs.declared.lattice.node.Below.{Below}
use Rattle.fast_check_finder_lattice.proofs.Places.{found_first, found_none, once_before, read_name, some_entry}
use Rattle.std.proofs.lemmas.Bool.{cases_order}
use Rattle.fast_check_finder_lattice.specs.Graph.{Graph, NameSet, reach, below_node, entry}
use Rattle.fast_check_finder_lattice.specs.Names.{Name, nothing, paths_below, paths_at, listed_at, IsListed, IsSame}
use Rattle.fast_check_finder_lattice.proofs.Walks.{name_shows}
use Rattle.fast_check_finder_lattice.specs.EqualityProof.{none_is}
use Rattle.fast_check_finder_lattice.proofs.Sorted.{node_once}
use Rattle.fast_check_finder_lattice.proofs.Lists.{items_at}

abbrev pub Out : Type 0
Out = String Global × Exports

-- what stands at a place
abbrev pub below_at : List Entry → ℕ → Option Below
below_at es k = get_or (map (λ (e : Entry). let o : Option Below = Some e.1 in o) es) k None

-- for each place the name that stands there, and what is below it
abbrev pub AreListed : Graph → List Entry → List ℕ → List Out → Type 0
AreListed g es [] [] = Unit {0}
AreListed g es [] (o ∷ os) = ⊥
AreListed g es (k ∷ ks) [] = ⊥
AreListed g es (k ∷ ks) (o ∷ os) = (string_bytes o.0 ≡ name_at es k) × IsSame (paths_below o.1) (reach g (below_at es k)) ×
    AreListed g es ks os

pub none_yet : (g : Graph) (es : List Entry) (os : List Out) → os ≡ [] → AreListed g es [] os
none_yet g es os e = subst (λ (xs : List Out). AreListed g es [] xs) (sym e) tt

push : (g : Graph) (es : List Entry) (ks : List ℕ) (os : List Out) (k : ℕ) (o : Out) → AreListed g es ks os →
    string_bytes o.0 ≡ name_at es k →
    IsSame (paths_below o.1) (reach g (below_at es k)) → AreListed g es (ks ++ k ∷ []) (os ++ o ∷ [])
push g es [] [] k o h n b = (n, b, tt)
push g es [] (p ∷ os) k o h n b = absurd h
push g es (d ∷ ks) [] k o h n b = absurd h
push g es (d ∷ ks) (p ∷ os) k o h n b = (h.0, h.1, push g es ks os k o h.2 n b)

pub listed_more : (g : Graph) (es : List Entry) (ks : List ℕ) (os : List Out) (i k : ℕ) (d : Entry) (o : Out) → i < length ks →
    k ≡ get_or ks i 0 → k < length es →
    d ≡ get_or es k d → AreListed g es (take i ks) os → string_bytes o.0 ≡ string_bytes d.0 →
    IsSame (paths_below o.1) (reach g (Some d.1)) →
    AreListed g es (take (i + 1) ks) (os ++ o ∷ [])
listed_more g es ks os i k d o within at here is h n b =
    let below : below_at es k ≡ Some d.1 =
    get_or-map (λ (e : Entry). let x : Option Below = Some e.1 in x) es k d None here ∙
    ap (λ (e : Entry). let x : Option Below = Some e.1 in x) (sym is) in
    subst (λ (xs : List ℕ). AreListed g es xs (os ++ o ∷ [])) (sym (take_more ks i 0 within ∙ ap (λ m. take i ks ++ m ∷ []) (sym at)))
    (push g es (take i ks) os k o h (n ∙ read_name es k d here is) (λ part q. b part q ∙ ap (λ x. reach g x part q) (sym below)))

-- what the list has for a name: what stands at one of the places, or nothing, and then it stands at none
abbrev Shows : Graph → List Entry → List ℕ → Name → Option Exports → Type 0
Shows g es ks n None = (p : ℕ) → p < length ks → name_at es (get_or ks p 0) ≡ n → ⊥
Shows g es ks n (Some x) = (p : ℕ) × (p < length ks) × (name_at es (get_or ks p 0) ≡ n) ×
    IsSame (paths_below x) (reach g (below_at es (get_or ks p 0)))

shows_more : (g : Graph) (es : List Entry) (k : ℕ) (ks : List ℕ) (n : Name) (x : Option Exports) → (name_at es k ≡ n → ⊥) →
    Shows g es ks n x → Shows g es (k ∷ ks) n x
shows_more g es k ks n (Some x) other t = (suc t.0, (let w = t.1 in omega (arith, w)), t.2, t.3)
shows_more g es k ks n None other t = none
  where
    none : (p : ℕ) → p < length (k ∷ ks) → name_at es (get_or (k ∷ ks) p 0) ≡ n → ⊥
    none zero h e = other e
    none (suc p) h e = t p (omega (arith, h)) e

shows : (g : Graph) (es : List Entry) (ks : List ℕ) (os : List Out) → AreListed g es ks os → (n : Name) → Shows g es ks n (listed_at os n)
shows g es [] [] h n = λ p w e. omega (arith, w)
shows g es [] (o ∷ os) h n = absurd h
shows g es (k ∷ ks) [] h n = absurd h
shows g es (k ∷ ks) (o ∷ os) h n = ⊎_elim
    (λ (t : (bytes_eq n (string_bytes o.0) ≡ true) × (n ≡ string_bytes o.0)).
    subst (λ (b : Bool). Shows g es (k ∷ ks) n (cond b (Some o.1) (listed_at os n))) (sym t.0) (0, omega arith, sym h.0 ∙ sym t.1, h.1))
    (λ (t : (bytes_eq n (string_bytes o.0) ≡ false) × (n ≡ string_bytes o.0 → ⊥)).
    subst (λ (b : Bool). Shows g es (k ∷ ks) n (cond b (Some o.1) (listed_at os n))) (sym t.0)
    (shows_more g es k ks n (listed_at os n) (λ e. t.1 (sym e ∙ sym h.0)) (shows g es ks os h.2 n)))
    (name_shows n (string_bytes o.0))

names_same : (g : Graph) (es : List Entry) (ks : List ℕ) (os : List Out) → AreListed g es ks os →
    map (λ (o : Out). string_bytes o.0) os ≡ map (λ k. name_at es k) ks
names_same g es [] [] h = refl
names_same g es [] (o ∷ os) h = absurd h
names_same g es (k ∷ ks) [] h = absurd h
names_same g es (k ∷ ks) (o ∷ os) h = ap (λ (n : Name). n ∷ map (λ (o : Out). string_bytes o.0) os) h.0 ∙
    ap (λ (ns : List Name). name_at es k ∷ ns) (names_same g es ks os h.2)

module _ (g : Graph) (es : List Entry) (ks : List ℕ) (os : List Out) (es_once : IsOnce es) (places : ArePlaces es ks)
    (all : AreListed g es ks os) where
  found_by : (n : Name) (x : Option Exports) → Shows g es ks n x → IsSame (reach g (found es n)) (paths_at x)
  found_by n None t part q =
      ap (λ o. reach g o part q) (found_none es n (λ k h e. places.each k h (λ p w is. t p w (ap (λ m. name_at es m) is ∙ e)))) ∙
      none_is g part q
  found_by n (Some x) t part q =
      let k = get_or ks t.0 0 in
      let within = places.within t.0 t.1 in
      let d = some_entry es k within in
      ap (λ o. reach g o part q) (found_first es n k d within t.2 (once_before es es_once n k within t.2) ∙
      sym (get_or-map (λ (e : Entry). let y : Option Below = Some e.1 in y) es k d None within)) ∙ sym (t.3 part q)

  differ : (k l : ℕ) → k < length es → l < length es → name_at es k ≡ name_at es l → k ≡ l
  differ k l w v e = ⊎_elim (λ (h : k ≡ l). h)
      (⊎_elim (λ (h : k < l). absurd (es_once k l h v e)) (λ (h : l < k). absurd (es_once l k h w (sym e))))
      (cases_order k l)

  apart : AllPairs (λ n m. n ≢ m) (map (λ k. name_at es k) ks)
  apart i j d l w e =
      let n : length (map (λ k. name_at es k) ks) ≡ length ks = length-map ks (λ k. name_at es k) in
      let at : (p : ℕ) (x : Name) → p < length ks → get_or (map (λ k. name_at es k) ks) p x ≡ name_at es (get_or ks p 0) =
      λ p x h. get_or-map (λ k. name_at es k) ks p 0 x h in
      places.once i j l (omega (arith, w, n))
      (differ (get_or ks i 0) (get_or ks j 0) (places.within i (omega (arith, w, n, l))) (places.within j (omega (arith, w, n)))
      (sym (at i d (omega (arith, w, n, l))) ∙ (e ∙ at j d (omega (arith, w, n)))))

pub listed_all : (nodes : List Node) (root : Node) (ks : List ℕ) (i : ℕ) (os : List Out) → 0 < length nodes → root ≡ get_or nodes 0 root →
    ArePlaces root.names.items ks →
    length ks ≤ i → AreListed (entry nodes) root.names.items (take i ks) os → IsListed (below_node (entry nodes) 0) os
listed_all nodes root ks i os within is places h listed =
    let es = root.names.items in
    let all : AreListed (entry nodes) es ks os = subst (λ (xs : List ℕ). AreListed (entry nodes) es xs os) (take_all i ks h) listed in
    record {
      each = λ n part q. ap (λ xs. reach (entry nodes) (found xs n) part q) (sym (items_at nodes 0 root within is)) ∙
          found_by (entry nodes) es ks os (node_once root) places all n (listed_at os n) (shows (entry nodes) es ks os all n) part q;
      once = subst (λ (ns : List Name). AllPairs (λ n m. n ≢ m) ns) (sym (names_same (entry nodes) es ks os all))
          (apart (entry nodes) es ks os (node_once root) places all);
    }

pub listed_none : (f : NameSet) → IsSame f nothing → (os : List Out) → os ≡ [] → IsListed f os
listed_none f e os none = let P : List Out → Type 0 = IsListed f in subst P (sym none) (record {
  each = λ n part q. e part (n ∷ q);
  once = λ i j d l w. absurd (omega (arith, w));
})
