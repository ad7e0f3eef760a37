-- What is answered to a superclass, and references by their kind.
use Rattle.std.specs.Prelude.{◌≡◌, ℕ, ◌+◌, ◌*◌, ◌<◌, Bool, true, false, ◌&&◌, Some, List, [], ◌∷◌, ◌++◌, refl, if◌then◌else◌}
use Rattle.std.proofs.Common.{ap, ◌∙◌, sym, subst, arith}
use Rattle.std.proofs.lemmas.Bool.{false≢true}
use Rattle.fast_check_tree_syntax.specs.declared.kind.Kind.{Kind}
use Rattle.fast_check_tree_syntax.specs.declared.kind.Kind.TheVariants as kinds
use Rattle.fast_check_tree_syntax.specs.declared.tree.Tree.{Tree, Absent}
use Rattle.fast_check_tree_syntax.specs.Height.{height, height_part}
use Rattle.fast_check_tree_syntax.specs.Shape.{◌is◌, kind_of, part, is_absent}
use Rattle.fast_check_tree_forms_expressions.specs.Calls.{MemberExpr-obj, MemberExpr-prop}
use Rattle.fast_check_tree_helpers.specs.ranges.Ranges.{range_of_node}
use Rattle.fast_check_meaning_signatures.specs.declared.fault.Fault.{Fault}
use Rattle.fast_check_meaning_signatures.specs.declared.fault.FaultKind.TheVariants.{UnsupportedSuperClassExpr}
use Rattle.fast_check_meaning_signatures.specs.Seen.{Seen, written, faulty}
use Rattle.fast_check_meaning_signatures.specs.Answers.{Adds, fault_at, answer_to}
use Rattle.fast_check_tree_forms_expressions.specs.Properties.{ComputedPropName-expr}
use Rattle.fast_check_tree_helpers.specs.PlaceOf.{PlaceOf}
use Rattle.fast_check_meaning_signatures.specs.Classes.{property_of_kind, reference_of_kind, is_reference, superclass_seen}
use Rattle.fast_check_meaning_signatures.proofs.Adding.{adds_nothing, adds_same, adds_fault}
use Rattle.fast_check_meaning_signatures.proofs.References.{is_reference_is}

-- a part of a node is lower than the node
lower_leaf : (k : Kind) → k is kinds.Leaf ≡ false → k ≡ kinds.Leaf → ⊥
lower_leaf k e p = false≢true (sym e ∙ ap (λ a. a is kinds.Leaf) p)

pub lower : (t : Tree) (i : ℕ) {u : Tree} {k : Kind} → k ≡ kind_of t → u ≡ part i t → k is kinds.Leaf ≡ false → height u < height t
lower t i e p n = rw p (height_part t i (λ leaf. lower_leaf _ n (e ∙ leaf)))

pub lower_odd : (t : Tree) (i : ℕ) {u : Tree} {k : Kind} {n : ℕ} → 2 * height t + 1 ≡ n → k ≡ kind_of t → u ≡ part i t →
    k is kinds.Leaf ≡ false →
    2 * height u + 1 < n
lower_odd t i m e p l = omega (arith, m, lower t i e p l)

pub reference_by : (t : Tree) (k : Kind) → kind_of t ≡ k → reference_of_kind k t is_reference ≡ is_reference t
reference_by t k e = sym (is_reference_is t ∙ ap (λ j. reference_of_kind j t is_reference) e)

-- a member, by what is found of its object and of its property
pub member_reference : (t : Tree) → kind_of t ≡ kinds.MemberExpr → {a b : Bool} → a ≡ is_reference (MemberExpr-obj t) →
    b ≡ property_of_kind (kind_of (MemberExpr-prop t)) (MemberExpr-prop t) is_reference → (a && b) ≡ is_reference t
member_reference t e p q = (λ i. p i && q i) ∙ reference_by t kinds.MemberExpr e

abbrev pub at-ComputedPropName-expr : PlaceOf ComputedPropName-expr
at-ComputedPropName-expr = record { place = 1; reads = λ t. refl }

pub no_reference : (t : Tree) (k : Kind) → kind_of t ≡ k → (k ≡ kinds.Ident → ⊥) → (k ≡ kinds.MemberExpr → ⊥) → false ≡ is_reference t
no_reference t k e n1 n2 = go k n1 n2 ∙ reference_by t k e
  where
    go : (k : Kind) → (k ≡ kinds.Ident → ⊥) → (k ≡ kinds.MemberExpr → ⊥) → false ≡ reference_of_kind k t is_reference
    go kinds.Ident n1 n2 = absurd (n1 refl)
    go kinds.MemberExpr n1 n2 = absurd (n2 refl)
    go _ n1 n2 = refl

pub no_property : (t : Tree) (k : Kind) → kind_of t ≡ k → (k ≡ kinds.IdentName → ⊥) → (k ≡ kinds.ComputedPropName → ⊥) →
    false ≡ property_of_kind (kind_of t) t is_reference
no_property t k e n1 n2 = go k n1 n2 ∙ ap (λ j. property_of_kind j t is_reference) (sym e)
  where
    go : (k : Kind) → (k ≡ kinds.IdentName → ⊥) → (k ≡ kinds.ComputedPropName → ⊥) → false ≡ property_of_kind k t is_reference
    go kinds.IdentName n1 n2 = absurd (n1 refl)
    go kinds.ComputedPropName n1 n2 = absurd (n2 refl)
    go _ n1 n2 = refl

module _ (t : Tree) where
  abbrev superclass_if : Bool → Bool → Seen
  superclass_if a r = if a then written Absent else (if r then written t else faulty UnsupportedSuperClassExpr (range_of_node t))

  pub no_superclass : is_absent t ≡ true → (old : List Fault) → Adds (answer_to (superclass_seen t)) (Some Absent) old old
  no_superclass a old = adds_same (ap (λ b. answer_to (superclass_if b (is_reference t))) a) (adds_nothing (Some Absent) old)

  pub reference_stays : is_absent t ≡ false → is_reference t ≡ true → (old : List Fault) →
      Adds (answer_to (superclass_seen t)) (Some t) old old
  reference_stays a r old = adds_same (λ i. answer_to (superclass_if (a i) (r i))) (adds_nothing (Some t) old)

  pub superclass_faulty : is_absent t ≡ false → is_reference t ≡ false → {old all : List Fault} →
      all ≡ old ++ fault_at UnsupportedSuperClassExpr (range_of_node t) ∷ [] → Adds (answer_to (superclass_seen t)) (Some Absent) old all
  superclass_faulty a r {old} p = adds_same (λ i. answer_to (superclass_if (a i) (r i)))
      (subst (λ fs. Adds (answer_to (superclass_if false false)) (Some Absent) old fs) (sym p) (adds_fault (Some Absent) _ old))
