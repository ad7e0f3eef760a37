-- What one set has at the places of the nodes of another is noted node by node, since a node lists later ones alone.
use Rattle.std.proofs.Common.{◌≡◌, ◌∙◌, sym, ap, refl, ⊎_elim, ℕ, ◌+◌, ◌<◌, ◌≤◌, true, false, ◌||◌, cond, List, [], ◌∷◌, ◌++◌}
use Rattle.std.proofs.Common.{Option, Some, arith, length, get_or, take, string_bytes}
use Rattle.std.proofs.lemmas.Bool.{false≢true, cases_Bool, cases_lt, or_left}
use Rattle.std.proofs.lemmas.List.{take_more, take_all}
use Rattle.fast_check_finder_lattice.specs.declared.lattice.node.Below.{Below}
use Rattle.fast_check_finder_lattice.specs.declared.lattice.node.Below.TheVariants.{Subset}
use Rattle.fast_check_finder_lattice.specs.Order.{Name, Entry, found, IsOnce}
use Rattle.fast_check_finder_lattice.specs.Graph.{Graph, IsTree}
use Rattle.fast_check_finder_lattice.specs.Numbers.{is_node, lists_node}
use Rattle.fast_check_finder_lattice.specs.Pruned.{under, place_at, AreNoted, AreOthersSame}
use Rattle.fast_check_finder_lattice.proofs.Extends.{itself}
use Rattle.fast_check_finder_lattice.proofs.Numbers.{is_node_of, once_behind, found_behind}

-- what is noted for node k once some names have been looked at, of which each leads to u
abbrev pub noted : (Name → Option Below) → List Entry → ℕ → Option Below → Option Below
noted u [] k p = p
noted u (e ∷ es) k p = noted u es k (cond (is_node e.1 k) (u (string_bytes e.0)) p)

noted_push : (u : Name → Option Below) (es : List Entry) (e : Entry) (k : ℕ) (p : Option Below) →
    noted u (es ++ e ∷ []) k p ≡ cond (is_node e.1 k) (u (string_bytes e.0)) (noted u es k p)
noted_push u [] e k p = refl
noted_push u (d ∷ es) e k p = noted_push u es e k (cond (is_node d.1 k) (u (string_bytes d.0)) p)

-- one more name
pub noted_more : (u : Name → Option Below) (es : List Entry) (i : ℕ) (e : Entry) (k : ℕ) (p : Option Below) → i < length es →
    e ≡ get_or es i e →
    noted u (take (i + 1) es) k p ≡ cond (is_node e.1 k) (u (string_bytes e.0)) (noted u (take i es) k p)
noted_more u es i e k p within is =
    ap (λ (xs : List Entry). noted u xs k p) (take_more es i e within ∙ ap (λ (x : Entry). take i es ++ x ∷ []) (sym is)) ∙
    noted_push u (take i es) e k p

pub noted_all : (u : Name → Option Below) (es : List Entry) (i k : ℕ) (p : Option Below) → length es ≤ i →
    noted u (take i es) k p ≡ noted u es k p
noted_all u es i k p end = ap (λ (xs : List Entry). noted u xs k p) (take_all i es end)

-- a node that is not listed
pub noted_other : (u : Name → Option Below) (es : List Entry) (k : ℕ) (p : Option Below) → lists_node es k ≡ false → noted u es k p ≡ p
noted_other u [] k p not_listed = refl
noted_other u (e ∷ es) k p not_listed = ⊎_elim
    (λ (t : is_node e.1 k ≡ true). absurd (false≢true (sym not_listed ∙ or_left (is_node e.1 k) (lists_node es k) t)))
    (λ (t : is_node e.1 k ≡ false).
    ap (λ b. noted u es k (cond b (u (string_bytes e.0)) p)) t ∙
    noted_other u es k p (sym (ap (λ b. b || lists_node es k) t) ∙ not_listed))
    (cases_Bool (is_node e.1 k))

-- a node that is listed, whatever name leads to it
pub noted_listed : (u : Name → Option Below) (es : List Entry) (k : ℕ) (p v : Option Below) → IsOnce es → lists_node es k ≡ true →
    ((n : Name) → found es n ≡ Some (Subset (record { 0 = k })) → u n ≡ v) → noted u es k p ≡ v
noted_listed u [] k p v once listed same = absurd (false≢true listed)
noted_listed u (e ∷ es) k p v once listed same = ⊎_elim
    (λ (t : lists_node es k ≡ true). noted_listed u es k (cond (is_node e.1 k) (u (string_bytes e.0)) p) v (once_behind e es once) t
    (λ n is. same n (found_behind e es once n (Subset (record { 0 = k })) is)))
    (λ (t : lists_node es k ≡ false). ⊎_elim
    (λ (h : is_node e.1 k ≡ true).
    noted_other u es k (cond (is_node e.1 k) (u (string_bytes e.0)) p) t ∙
    (ap (λ b. cond b (u (string_bytes e.0)) p) h ∙
    same (string_bytes e.0) (ap (λ b. cond b (Some e.1) (found es (string_bytes e.0))) (itself (string_bytes e.0)) ∙
    ap (λ (b : Below). Some b) (is_node_of e.1 k h))))
    (λ (h : is_node e.1 k ≡ false).
    absurd (false≢true (sym t ∙ (sym (ap (λ b. b || lists_node es k) h) ∙ listed))))
    (cases_Bool (is_node e.1 k)))
    (cases_Bool (lists_node es k))

-- the nodes before i have been looked at
pub record IsNoting (g h : Graph) (i : ℕ) (places : List (Option Below)) : Type 0 where
  pub first : place_at places 0 ≡ Some (Subset (record { 0 = 0 }))
  pub each : (k : ℕ) → k < i → AreNoted g (place_at places k) (h k) places

-- the next node
pub one_noted : (g h : Graph) (size i : ℕ) (old new : List (Option Below)) → IsTree h size → IsNoting g h i old →
    AreNoted g (place_at old i) (h i) new → AreOthersSame (h i) old new → IsNoting g h (i + 1) new
one_noted g h size i old new tree is listed others = record {
  first = upto 0 (omega arith) ∙ is.first;
  each = λ k l n j e. ⊎_elim
      (λ (s : k < i).
      others j.0 (λ m d. let same = tree.once k n i m j e d in omega (arith, same.0, s)) ∙
      (is.each k s n j e ∙ ap (λ (p : Option Below). under g p n) (sym (upto k (omega (arith, s))))))
      (λ (s : i ≤ k).
      let same : i ≡ k = omega (arith, l, s) in
      listed n j (ap (λ (m : ℕ). h m n) same ∙ e) ∙
      (ap (λ (m : ℕ). under g (place_at old m) n) same ∙ ap (λ (p : Option Below). under g p n) (sym (upto k (omega (arith, same))))))
      (cases_lt k i);
}
  where
    upto : (k : ℕ) → k ≤ i → place_at new k ≡ place_at old k
    upto k l = others k (λ m d. let b = tree.later i m (record { 0 = k }) d in omega (arith, b.0, l))
