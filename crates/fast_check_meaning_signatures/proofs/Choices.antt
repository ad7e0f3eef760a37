-- Choices, and lists that are empty.
use Rattle.std.specs.Prelude.{◌≡◌, Bool, true, false, ◌&&◌, Option, Some, None, option_map, List, [], ◌∷◌, ◌++◌, refl, if◌then◌else◌}
use Rattle.fast_check_tree_syntax.specs.declared.source.SyntaxContext.{SyntaxContext}
use Rattle.fast_check_tree_syntax.specs.declared.tree.Tree.{Tree}
use Rattle.fast_check_tree_syntax.specs.Shape.{is_absent}
use Rattle.fast_check_tree_syntax.proofs.Made.{is_absent_node}
use Rattle.fast_check_tree_helpers.specs.Builders.{type_ann, any_type_ann}
use Rattle.fast_check_tree_helpers.specs.InferredType.{inferred_type}
use Rattle.fast_check_meaning_signatures.specs.Seen.{Seen}
use Rattle.fast_check_meaning_signatures.specs.Typing.{Typing, type_of, seen_by}

-- of a choice, by what holds of both
pub of_choice : {A : Type 0} (P : A → Type 0) (b : Bool) (x y : A) → (b ≡ true → P x) → (b ≡ false → P y) → P (if b then x else y)
of_choice P true x y p q = p refl
of_choice P false x y p q = q refl

pub both_true : (a b : Bool) → (a && b) ≡ true → (a ≡ true) × (b ≡ true)
both_true true b e = (refl, e)
both_true false b e = cc

-- no items of two lists, none of each
pub no_left : {A : Type 0} (xs ys : List A) → xs ++ ys ≡ [] → xs ≡ []
no_left [] ys e = refl
no_left (x ∷ xs) ys e = cc

pub no_right : {A : Type 0} (xs ys : List A) → xs ++ ys ≡ [] → ys ≡ []
no_right [] ys e = e
no_right (x ∷ xs) ys e = cc

pub not_empty : {A P : Type 0} {x : A} {xs : List A} → x ∷ xs ≡ [] → P
not_empty e = cc

-- what holds with each type that there may be, and without one, holds with the type of a declaration
pub of_typing : (P : Seen → Type 0) (unresolved : SyntaxContext) (d : Typing) (typed : Tree → Seen) (untyped : Seen) →
    ((type : Tree) → is_absent type ≡ false → P (typed type)) → P untyped → P (seen_by (type_of unresolved d) typed untyped)
of_typing P unresolved d typed untyped p q = go d.is_private (is_absent d.type) refl
  where
    shown : (o : Option Tree) → P (seen_by (option_map type_ann o) typed untyped)
    shown (Some type) = p (type_ann type) (is_absent_node _ _)
    shown None = q

    go : (a b : Bool) → is_absent d.type ≡ b → P (seen_by (if a then Some any_type_ann
        else (if b then option_map type_ann (inferred_type d.mutability unresolved d.value) else Some d.type)) typed untyped)
    go true b e = p any_type_ann (is_absent_node _ _)
    go false true e = shown (inferred_type d.mutability unresolved d.value)
    go false false e = p d.type e
