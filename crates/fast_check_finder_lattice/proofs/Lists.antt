-- Lists of names, and the nodes that hold them.
use Rattle.std.proofs.Common.{◌≡◌, ◌∙◌, sym, ap, refl, subst, ⊎_elim, ℕ, zero, suc, ◌+◌, ◌<◌, ◌≤◌, true, false, ◌&&◌, cond, eqb, List, []}
use Rattle.std.proofs.Common.{◌∷◌, ◌++◌, Option, Some, arith, map, take, drop, append_assoc, length, get_or, set, string_bytes, drop}
use Rattle.std.specs.Str.{bytes_eq}
use Rattle.std.proofs.lemmas.Bool.Decides.{eqb_tells}
use Rattle.std.proofs.lemmas.List.{map-set, map-append, get_or-map, get_or-set_same, get_or-set_other, get_or_append_left}
use Rattle.std.proofs.lemmas.List.{get_or-append-add, length-map, length-take-le, drop_more, take_more, get_or_at, set_at, map_push}
use Rattle.fast_check_finder_lattice.proofs.Sorted.{node_once}
use Rattle.fast_check_finder_lattice.proofs.Places.{found_first, read_name, once_before}
use Rattle.fast_check_finder_lattice.specs.declared.lattice.node.Node.{Node}
use Rattle.fast_check_finder_lattice.specs.declared.lattice.node.Below.{Below}
use Rattle.fast_check_finder_lattice.specs.declared.lattice.node.Below.TheVariants.{Subset}
use Rattle.fast_check_finder_lattice.specs.Graph.{listings, entry, moved, IsWritten, IsGraft}
use Rattle.fast_check_finder_lattice.specs.Order.{Name, Entry, found, IsOnce}

pub items_at : (nodes : List Node) (at : ℕ) (x : Node) → at < length nodes → x ≡ get_or nodes at x →
    x.names.items ≡ get_or (listings nodes) at []
items_at nodes at x within is = ap (λ (y : Node). y.names.items) is ∙ sym (get_or-map (λ (y : Node). y.names.items) nodes at x [] within)

pub listings_set : (nodes : List Node) (at : ℕ) (x : Node) → listings (set nodes at x) ≡ set (listings nodes) at x.names.items
listings_set nodes at x = map-set (λ (y : Node). y.names.items) nodes at x

-- a node that lists z under a name
pub written_by : (nodes : List Node) (at : ℕ) (x y : Node) (name : Name) (z : Option Below) → at < length nodes → x ≡ get_or nodes at x →
    ((m : Name) → found y.names.items m ≡ cond (bytes_eq name m) z (found x.names.items m)) →
    IsWritten (entry nodes) at name z (entry (set nodes at y))
written_by nodes at x y name z within is now k n =
    let long : at < length (listings nodes) = subst (λ (m : ℕ). at < m) (sym (length-map nodes (λ (z : Node). z.names.items))) within in
    ap (λ ls. found (get_or ls k []) n) (listings_set nodes at y) ∙ ⊎_elim
    (λ (t : (eqb k at ≡ true) × (k ≡ at)).
    ap (λ i. found (get_or (set (listings nodes) at y.names.items) i []) n) t.1
    ∙ (ap (λ es. found es n) (get_or-set_same (listings nodes) at y.names.items [] long)
    ∙ (now n
    ∙ (ap (λ es. cond (bytes_eq name n) z (found es n)) (items_at nodes at x within is)
    ∙ (ap (λ i. cond (bytes_eq name n) z (found (get_or (listings nodes) i []) n)) (sym t.1)
    ∙ ap (λ b. cond (b && bytes_eq name n) z (found (get_or (listings nodes) k []) n)) (sym t.0))))))
    (λ (f : (eqb k at ≡ false) × (k ≡ at → ⊥)).
    ap (λ es. found es n) (get_or-set_other (listings nodes) at k y.names.items [] f.1)
    ∙ ap (λ b. cond (b && bytes_eq name n) z (found (get_or (listings nodes) k []) n)) (sym f.0))
    (eqb_tells k at)

-- a list whose elements are written one by one
module _ {X : Type 0} (f : X → X) (xs : List X) (i : ℕ) (d : X) (within : i < length xs) where
  front : length (map f (take i xs)) ≡ i
  front = length-map (take i xs) f ∙ length-take-le i xs (let h : i ≤ length xs = omega (arith, within) in h)

  pub still : get_or (map f (take i xs) ++ drop i xs) i d ≡ get_or xs i d
  still = ap (λ ys. get_or (map f (take i xs) ++ ys) i d) (drop_more xs i d within) ∙
      get_or_at (map f (take i xs)) (get_or xs i d) (drop (i + 1) xs) d i front

  pub one_more : set (map f (take i xs) ++ drop i xs) i (f (get_or xs i d)) ≡ map f (take (i + 1) xs) ++ drop (i + 1) xs
  one_more =
      ap (λ ys. set (map f (take i xs) ++ ys) i (f (get_or xs i d))) (drop_more xs i d within) ∙
      (set_at (map f (take i xs)) (get_or xs i d) (drop (i + 1) xs) (f (get_or xs i d)) i front ∙
      (sym (append_assoc (map f (take i xs)) (f (get_or xs i d) ∷ []) (drop (i + 1) xs)) ∙
      ap (λ ys. ys ++ drop (i + 1) xs) (sym (map_push f (take i xs) (get_or xs i d)) ∙ ap (map f) (sym (take_more xs i d within)))))

-- what stands under each name of a list is changed
module _ (f : Below → Below) where
  abbrev pub mapped : List Entry → List Entry
  mapped es = map (λ e. (e.0, f e.1)) es

  pub mapped_names : (es : List Entry) → map (λ (e : Entry). string_bytes e.0) (mapped es) ≡ map (λ (e : Entry). string_bytes e.0) es
  mapped_names [] = refl
  mapped_names (e ∷ es) = ap (λ (ns : List Name). string_bytes e.0 ∷ ns) (mapped_names es)

  pub mapped_at : (ls : List (List Entry)) (k : ℕ) → get_or (map mapped ls) k [] ≡ mapped (get_or ls k [])
  mapped_at [] k = refl
  mapped_at (es ∷ ls) zero = refl
  mapped_at (es ∷ ls) (suc k) = mapped_at ls k

-- what each place of a list in its order lists, is found
pub found_read : (es : List Entry) → IsOnce es → (i : ℕ) (d : Entry) → i < length es → d ≡ get_or es i d →
    found es (string_bytes d.0) ≡ Some d.1
found_read es once i d within is =
    let at = sym (read_name es i d within is) in
    found_first es (string_bytes d.0) i d within at (once_before es once (string_bytes d.0) i within at) ∙
    ap (λ (e : Entry). Some e.1) (sym is)

-- the same of the names of a node
pub listed_read : (nodes : List Node) (at : ℕ) (es : List Entry) → es ≡ get_or (listings nodes) at [] → IsOnce es → (i : ℕ) (d : Entry) →
    i < length es → d ≡ get_or es i d → entry nodes at (string_bytes d.0) ≡ Some d.1
listed_read nodes at es names once i d within is =
    ap (λ xs. found xs (string_bytes d.0)) (sym names) ∙ found_read es once i d within is

pub entry_front : (nodes more : List Node) (k : ℕ) (n : Name) → k < length nodes → entry (nodes ++ more) k n ≡ entry nodes k n
entry_front nodes more k n h =
    ap (λ ls. found (get_or ls k []) n) (map-append (λ (x : Node). x.names.items) nodes more) ∙
    ap (λ es. found es n) (get_or_append_left (listings nodes) (listings more) [] k
    (subst (λ (m : ℕ). k < m) (sym (length-map nodes (λ (x : Node). x.names.items))) h))

pub entry_behind : (nodes more : List Node) (k : ℕ) (n : Name) → entry (nodes ++ more) (length nodes + k) n ≡ entry more k n
entry_behind nodes more k n =
    ap (λ ls. found (get_or ls (length nodes + k) []) n) (map-append (λ (x : Node). x.names.items) nodes more) ∙
    (ap (λ (m : ℕ). found (get_or (listings nodes ++ listings more) (m + k) []) n) (sym (length-map nodes (λ (x : Node). x.names.items))) ∙
    ap (λ es. found es n) (get_or-append-add (listings nodes) (listings more) k []))

-- a name comes to the nodes for the root of a tree, whose nodes stand behind
pub grafts : (nodes named tree shifted joined : List Node) (size at : ℕ) (name : Name) → size ≡ length nodes → length named ≡ length nodes →
    IsWritten (entry nodes) at name (Some (Subset (record { 0 = size }))) (entry named) →
    ((k : ℕ) (n : Name) → entry shifted k n ≡ moved (λ m. size + m) (entry tree k n)) → joined ≡ named ++ shifted →
    IsGraft (entry nodes) size at name (entry tree) (entry joined)
grafts nodes named tree shifted joined size at name size_is long now by_shift is = record {
  low = λ k n h. ap (λ ns. entry ns k n) is ∙ (entry_front named shifted k n (omega (arith, h, size_is, long)) ∙ now k n);
  high = λ k n.
      let there : size ≡ length named = omega (arith, size_is, long) in
      ap (λ ns. entry ns (size + k) n) is ∙ (ap (λ m. entry (named ++ shifted) (m + k) n) there ∙
      (entry_behind named shifted k n ∙ by_shift k n));
}

pub once_at : (nodes : List Node) (k : ℕ) → IsOnce (get_or (listings nodes) k [])
once_at [] k = λ i j l w e. absurd (let z : j < 0 = w in omega (arith, z))
once_at (x ∷ xs) zero = node_once x
once_at (x ∷ xs) (suc k) = once_at xs k
