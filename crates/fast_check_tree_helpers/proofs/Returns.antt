-- The equation of `returns`, and what return statements make of a class.
use Rattle.std.proofs.Common.{◌≡◌, ℕ, ◌+◌, ◌<◌, ◌≤◌, Bool, true, false, List, [], ◌∷◌, map, length, get_or, take, refl, ap, arith, subst}
use Rattle.std.proofs.Common.{◌∙◌, sym}
use Rattle.std.proofs.lemmas.List.{take_more, take_all, flat_map_more}
use Rattle.std.specs.List.{fold, flat_map}
use Rattle.std.proofs.lemmas.List.Sums.{fold-append}
use Rattle.fast_check_tree_syntax.specs.declared.kind.Kind.{Kind}
use Rattle.fast_check_tree_syntax.specs.declared.kind.Kind.TheVariants as kinds
use Rattle.fast_check_tree_syntax.specs.declared.tree.Tree.{Tree}
use Rattle.fast_check_tree_syntax.specs.Shape.{kind_of, part, parts}
use Rattle.fast_check_tree_helpers.specs.declared.return_class.ReturnStatementAnalysis.{ReturnStatementAnalysis}
use Rattle.fast_check_tree_helpers.specs.declared.return_class.ReturnStatementAnalysis.TheVariants as class
use Rattle.fast_check_tree_helpers.specs.ReturnClass.{entered, returns, returns_form, returns_by_kind, class_of_returns}
use Rattle.fast_check_tree_helpers.specs.ReturnStep.{after_return}
use Rattle.fast_check_tree_helpers.proofs.Levels.{by_form_out}

pub returns_out : (t : Tree) → returns t ≡ returns_form t (λ i. returns (part i t)) (map returns (parts t))
unfolding returns
returns_out = by_form_out [] returns_form (λ t inside each e. ap (λ k. returns_by_kind k t inside each) e)

pub returns_at : (t : Tree) (k : Kind) → kind_of t ≡ k → returns t ≡ returns_by_kind k t (λ i. returns (part i t)) (map returns (parts t))
returns_at t k e = returns_out t ∙ ap (λ k. returns_by_kind k t (λ i. returns (part i t)) (map returns (parts t))) e

flat_map-map : (ts : List Tree) → flat_map (λ (rs : List Bool). rs) (map returns ts) ≡ flat_map returns ts
flat_map-map [] = refl
flat_map-map (t ∷ ts) = cc (flat_map-map ts)

pub returns_each : (t : Tree) → kind_of t ≡ kinds.List → returns t ≡ flat_map returns (parts t)
returns_each t e = returns_at t kinds.List e ∙ flat_map-map (parts t)

by_fields : (k : Kind) (t : Tree) (inside : ℕ → List Bool) (each : List (List Bool)) → (k ≡ kinds.ReturnStmt → ⊥) → (k ≡ kinds.List → ⊥) →
    returns_by_kind k t inside each ≡ flat_map inside (entered k)
by_fields kinds.ReturnStmt t inside each n l = absurd (n refl)
by_fields kinds.List t inside each n l = absurd (l refl)
by_fields _ t inside each n l = refl

-- of another kind: those of the fields that are entered
pub returns_fields : (t : Tree) (k : Kind) → kind_of t ≡ k → (k ≡ kinds.ReturnStmt → ⊥) → (k ≡ kinds.List → ⊥) →
    returns t ≡ flat_map (λ i. returns (part i t)) (entered (kind_of t))
returns_fields t k e n l =
    returns_at t k e
    ∙ (by_fields k t (λ i. returns (part i t)) (map returns (parts t)) n l ∙
    ap (λ k. flat_map (λ i. returns (part i t)) (entered k)) (sym e))

-- no leaf has such a field
pub enters : (t : Tree) {fields : List ℕ} {i : ℕ} → fields ≡ entered (kind_of t) → i < length fields → kind_of t ≡ kinds.Leaf → ⊥
enters t {fields} {i} are below leaf =
    let none : i < 0 = subst (λ (l : List ℕ). i < length l) (are ∙ ap entered leaf) below in omega (arith, none)

-- the class after the first of a list: one more of them, and all of them
module _ {X : Type 0} (given : X → List Bool) (a : ReturnStatementAnalysis) (items : List X) (i : ℕ) {b : ReturnStatementAnalysis}
    (before : b ≡ fold after_return a (flat_map given (take i items))) where
  pub each_more : (d : X) {item : X} {c : ReturnStatementAnalysis} → i < length items → item ≡ get_or items i d →
      c ≡ fold after_return b (given item) →
      c ≡ fold after_return a (flat_map given (take (i + 1) items))
  each_more d below at next =
      let earlier = take i items in
      let last = get_or items i d in
      next ∙ (ap (λ x. fold after_return b (given x)) at
      ∙ (ap (λ x. fold after_return x (given last)) before
      ∙ (sym (fold-append after_return a (flat_map given earlier) (given last))
      ∙ (ap (fold after_return a) (flat_map_more given [] earlier last)
      ∙ ap (λ ts. fold after_return a (flat_map given ts)) (sym (take_more items i d below))))))

  pub each_all : (all : List X) → length items ≤ i → items ≡ all → b ≡ fold after_return a (flat_map given all)
  each_all all past are = before ∙ ap (λ ts. fold after_return a (flat_map given ts)) (take_all i items past ∙ are)

-- the class from all return statements
pub from_multiple : (rs : List Bool) → fold after_return class.Multiple rs ≡ class.Multiple
from_multiple [] = refl
from_multiple (r ∷ rs) = from_multiple rs

from_void : (r : Bool) (rs : List Bool) → fold after_return class.Void (r ∷ rs) ≡ class_of_returns (r ∷ rs)
from_void true [] = refl
from_void false [] = refl
from_void true (s ∷ rs) = from_multiple rs
from_void false (s ∷ rs) = from_void s rs

pub class_from_none : (rs : List Bool) → fold after_return class.None rs ≡ class_of_returns rs
class_from_none [] = refl
class_from_none (true ∷ rs) = from_void true rs
class_from_none (false ∷ rs) = from_void false rs
