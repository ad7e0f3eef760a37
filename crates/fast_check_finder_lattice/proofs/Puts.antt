-- What is put at a node, as paths.
use Rattle.std.proofs.Common.{◌≡◌, ◌∙◌, sym, ap, refl, subst, ℕ, ◌+◌, ◌<◌, true, false, ◌||◌, List, [], ◌∷◌, Option, Some, None}
use Rattle.std.proofs.Common.{Result, Ok, Err}
use Rattle.std.specs.Result.{OnOk, OnErr, IfOk}
use Rattle.std.specs.Option.{is_some}
use Rattle.std.proofs.lemmas.Bool.{false≢true}
use Rattle.std.proofs.Math.Bool.{or-true}
use Rattle.fast_check_finder_lattice.specs.declared.lattice.node.Node.{Node}
use Rattle.fast_check_finder_lattice.specs.declared.lattice.node.Below.{Below}
use Rattle.fast_check_finder_lattice.specs.declared.lattice.node.Below.TheVariants.{All, Subset}
use Rattle.fast_check_finder_lattice.specs.Order.{Name, Entry}
use Rattle.fast_check_finder_lattice.specs.Graph.{Path, Part, Touched, NameSet, Graph, listings, listed, entry, reach, rooted, subset_of, IsTree}
use Rattle.fast_check_finder_lattice.specs.Graph.{IsWritten, IsGraft, IsPut}
use Rattle.fast_check_finder_lattice.specs.Names.{named, everything, IsJoin}
use Rattle.fast_check_finder_lattice.specs.EqualityProof.{none_is, all_is}
use Rattle.fast_check_finder_lattice.proofs.Walks.{grown}
use Rattle.fast_check_finder_lattice.proofs.Grafts.{tree_grafted, grafted}

-- graphs that list the same reach the same
pub reach_same : (g w : Graph) → ((k : ℕ) (n : Name) → w k n ≡ g k n) → (o : Option Below) (part : Part) (q : Path) →
    reach w o part q ≡ reach g o part q
reach_same g w e o part [] = refl
reach_same g w e None part (n ∷ q) = refl
reach_same g w e (Some All) part (n ∷ q) = refl
reach_same g w e (Some (Subset j)) part (n ∷ q) = ap (λ o. reach w o part q) (e j.0 n) ∙ reach_same g w e (g j.0 n) part q

pub rooted_same : (g w : Graph) → ((k : ℕ) (n : Name) → w k n ≡ g k n) → (part : Part) (p : Path) → rooted w part p ≡ rooted g part p
rooted_same g w e part [] = refl
rooted_same g w e part (n ∷ q) = ap (λ o. reach w o part q) (e 0 n) ∙ reach_same g w e (g 0 n) part q

pub subset_along : (f h : NameSet) → ((part : Part) (p : Path) → f part p ≡ h part p) → (part : Part) (p : Path) →
    subset_of f part p ≡ subset_of h part p
subset_along f h e part [] = refl
subset_along f h e part (n ∷ q) = e part (n ∷ q)

-- nodes that list the same are a tree alike
pub tree_along : (nodes others : List Node) (size count : ℕ) → listings others ≡ listings nodes → count ≡ size → IsTree (entry nodes) size →
    IsTree (entry others) count
tree_along nodes others size count e c tree =
    subst (λ (ls : List (List Entry)). IsTree (listed ls) count) (sym e) (subst (λ (m : ℕ). IsTree (entry nodes) m) (sym c) tree)

-- All is put where All or nothing stood
pub put_all : (g w : Graph) (size at : ℕ) (name : Name) → IsWritten g at name (Some All) w → IsPut g size at name everything w
put_all g w size at name now = record {
  now = Some All;
  low = λ k n h. now k n;
  gain = λ part q. all_is w part q ∙ sym (or-true (reach g (g at name) part q));
}

-- a tree is put where nothing stood
module _ (g s w : Graph) (size count at : ℕ) (name : Name) (tree : IsTree g size) (sub : IsTree s count) (some : 0 < count)
    (within : at < size)
    (free : g at name ≡ None) (graft : IsGraft g size at name s w) where
  pub put_tree : (F : NameSet) → ((part : Part) (q : Path) → subset_of (rooted s) part q ≡ F part q) → IsPut g size at name F w
  put_tree F is = record {
    now = Some (Subset (record { 0 = size }));
    low = graft.low;
    gain = λ part q. grafted g s w size count at name tree sub some within free graft.low graft.high part q ∙ (is part q ∙
        sym (ap (λ o. reach g o part q || F part q) free ∙ ap (λ b. b || F part q) (none_is g part q)));
  }

  pub put_keeps : IsTree w (size + count)
  put_keeps = tree_grafted g s w size count at name tree sub some within free graft.low graft.high

-- put at the root
pub put_join : (g w : Graph) (size : ℕ) (name : Name) (F : NameSet) → IsTree g size → 0 < size → IsPut g size 0 name F w →
    IsJoin (rooted g) (named name F) (rooted w)
put_join g w size name F tree some put part [] = refl
put_join g w size name F tree some put part (n ∷ q) =
    grown g w size 0 name put.now F (named name F) tree put.low (λ part x q. refl) put.gain 0 some n part q

pub on_ok_from : {T E : Type 0} {P Q : Type 0} (r : Result T E) → (P → Q) → OnOk r P → OnOk r Q
on_ok_from (Ok x) f p = f p
on_ok_from (Err e) f p = tt

pub on_err_from : {T E : Type 0} {P Q : Type 0} (r : Result T E) → (P → Q) → OnErr r P → OnErr r Q
on_err_from (Ok x) f p = tt
on_err_from (Err e) f p = f p

pub on_ok_both : {T E : Type 0} {P Q R : Type 0} (r : Result T E) → (P → Q → R) → OnOk r P → OnOk r Q → OnOk r R
on_ok_both (Ok x) f p q = f p q
on_ok_both (Err e) f p q = tt

pub either_way : {T E : Type 0} {P : Type 0} (r : Result T E) → OnOk r P → OnErr r P → P
either_way (Ok x) p q = p
either_way (Err e) p q = q

pub nothing_listed : (nodes : List Node) → nodes ≡ [] → (part : Part) (p : Path) → rooted (entry nodes) part p ≡ false
nothing_listed nodes e part [] = refl
nothing_listed nodes e part (n ∷ q) = ap (λ ns. reach (entry ns) (entry ns 0 n) part q) e ∙ none_is (entry []) part q

-- a name that is not touched is not listed
untouched : (o : Option Below) (g : Graph) → reach g o Touched [] ≡ false → o ≡ None
untouched None g h = refl
untouched (Some All) g h = cc
untouched (Some (Subset j)) g h = cc

pub not_listed : (nodes : List Node) (n : Name) → rooted (entry nodes) Touched (n ∷ []) ≡ false → entry nodes 0 n ≡ None
not_listed nodes n h = untouched (entry nodes 0 n) (entry nodes) h

pub not_none : (o : Option Below) → is_some o ≡ true → o ≡ None → ⊥
not_none None h e = false≢true h
not_none (Some x) h e = let f : is_some (Some x) ≡ false = ap is_some e in false≢true (sym f)

pub if_ok_from : {T E : Type 0} {P Q : T → Type 0} (r : Result T E) → ((x : T) → P x → Q x) → IfOk r P → IfOk r Q
if_ok_from (Ok x) f p = f x p
if_ok_from (Err e) f p = tt

-- a fact that holds whatever came out
pub on_err : {T E : Type 0} {P : Type 0} (r : Result T E) → P → OnErr r P
on_err (Ok x) p = tt
on_err (Err e) p = p
