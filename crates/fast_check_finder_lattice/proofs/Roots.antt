-- A root without names, put where there is no node.
use Rattle.std.proofs.Common.{◌≡◌, ◌∙◌, sym, ap, ℕ, zero, suc, ◌≤◌, List, [], ◌∷◌, ◌++◌, Some, None, true, eqb, arith, length}
use Rattle.std.specs.Prelude.{Vec}
use Rattle.std.proofs.lemmas.Bool.{eqb-true}
use Rattle.std.specs.declared.alloc.Global.{Global}
use Rattle.fast_check_finder_lattice.specs.declared.lattice.node.Node.{Node}
use Rattle.fast_check_finder_lattice.specs.declared.lattice.node.NodeNo.{NodeNo}
use Rattle.fast_check_finder_lattice.specs.declared.lattice.node.Below.TheVariants.{Subset}
use Rattle.fast_check_finder_lattice.specs.Order.{Name, Entry, found, IsOnce}
use Rattle.fast_check_finder_lattice.specs.Graph.{entry, IsTree}
use Rattle.fast_check_finder_lattice.proofs.Copies.{past_none}

pub none_once : (es : List Entry) → es ≡ [] → IsOnce es
none_once es e = λ i j l w d. omega (arith, ap length e, w)

pub none_there : (nodes : Vec Node Global) → true ≡ eqb nodes.len 0 → length nodes.items ≡ 0
none_there nodes e = omega (arith, eqb-true nodes.len 0 (sym e), nodes.ok.0)

lists_none : (root : Node) → root.names.items ≡ [] → (k : ℕ) (n : Name) → entry (root ∷ []) k n ≡ None
lists_none root e zero n = ap (λ es. found es n) e
lists_none root e (suc k) n = past_none (root ∷ []) (suc k) (omega arith) n

pub root_same : (nodes all : List Node) (root : Node) → length nodes ≡ 0 → all ≡ nodes ++ root ∷ [] → root.names.items ≡ [] →
    (k : ℕ) (n : Name) → entry all k n ≡ entry nodes k n
root_same [] all root none e names k n =
    ap (λ (ns : List Node). entry ns k n) e ∙ (lists_none root names k n ∙ sym (past_none [] k (omega arith) n))
root_same (x ∷ xs) all root none e names k n = absurd (omega (arith, none))

pub root_tree : (nodes all : List Node) (root : Node) (size : ℕ) → length nodes ≡ 0 → all ≡ nodes ++ root ∷ [] → root.names.items ≡ [] →
    size ≤ 1 → IsTree (entry all) size
root_tree nodes all root size none e names few = record {
  later = λ k n j h. absurd (nothing k n j h);
  once = λ k n l m j h g. absurd (nothing k n j h);
  parent = λ j some less. absurd (omega (arith, some, less, few));
}
  where
    nothing : (k : ℕ) (n : Name) (j : NodeNo) → entry all k n ≡ Some (Subset j) → ⊥
    nothing k n j h =
        let is : entry all k n ≡ None = root_same nodes all root none e names k n ∙ past_none nodes k (omega (arith, none)) n in
        let x : None ≡ Some (Subset j) = sym is ∙ h in cc
