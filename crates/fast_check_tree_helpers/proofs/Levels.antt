-- Functions by forms: their equation of each tree, and what they give of a moved tree. Both are proved here once.
use Rattle.std.proofs.Common.{◌≡◌, ℕ, Bool, true, false, List, [], ◌∷◌, map, refl, ap, ap₂, ◌∙◌, sym}
use Rattle.std.proofs.Math.Path.{fun_ext}
use Rattle.std.proofs.lemmas.List.{map-id}
use Rattle.fast_check_tree_syntax.specs.declared.kind.Kind.TheVariants.{Leaf}
use Rattle.fast_check_tree_syntax.specs.declared.tree.Tree.{Tree, Absent}
use Rattle.fast_check_tree_syntax.specs.Shape.{kind_of, part, parts, is_absent, OfAll}
use Rattle.fast_check_tree_syntax.specs.Moves.{Moves, moved}
use Rattle.fast_check_tree_syntax.specs.Recursion.{by_form, by_form_is, by_form_is_absent}
use Rattle.fast_check_tree_syntax.proofs.Induction.{tree_ind, at_part}
use Rattle.fast_check_tree_syntax.proofs.Leaves.{leaf_of_absent}
use Rattle.fast_check_tree_syntax.proofs.Moved.{part_moved, parts_moved, absent_moved}

-- the equation of each tree, where the form of a leaf is what is absent
module _ {A : Type 0} (absent : A) (form : Tree → (ℕ → A) → List A → A)
    (leaf : (t : Tree) (inside : ℕ → A) (each : List A) → kind_of t ≡ Leaf → form t inside each ≡ absent) where
  abbrev given : Tree → A
  given = by_form absent form

  pub by_form_out : (t : Tree) → by_form absent form t ≡ form t (λ i. by_form absent form (part i t)) (map (by_form absent form) (parts t))
  by_form_out t = go (is_absent t) refl
    where
      go : (b : Bool) → is_absent t ≡ b → given t ≡ form t (λ i. given (part i t)) (map given (parts t))
      go true e = by_form_is_absent absent form t e ∙ sym (leaf t (λ i. given (part i t)) (map given (parts t)) (leaf_of_absent t e))
      go false e = by_form_is absent form t e

-- of a moved tree, where each level goes along
module _ {A : Type 0} (m : Moves) (along : A → A) (after before : Tree → A) (after_form before_form : Tree → (ℕ → A) → List A → A)
    (after_out : (t : Tree) → after t ≡ after_form t (λ i. after (part i t)) (map after (parts t)))
    (before_out : (t : Tree) → before t ≡ before_form t (λ i. before (part i t)) (map before (parts t)))
    (nothing : after Absent ≡ along (before Absent))
    (level : (t : Tree) (inside : ℕ → A) (each : List A) →
    after_form (moved m t) (λ i. along (inside i)) (map along each) ≡ along (before_form t inside each)) where
  abbrev Goes : Tree → Type 0
  Goes t = after (moved m t) ≡ along (before t)

  each_goes : (ts : List Tree) → OfAll Goes ts → map after (map (moved m) ts) ≡ map along (map before ts)
  each_goes [] h = refl
  each_goes (t ∷ ts) h = ap₂ (λ a rest. a ∷ rest) h.0 (each_goes ts h.1)

  absent_goes : Goes Absent
  absent_goes = ap after (absent_moved m) ∙ nothing

  goes : (t : Tree) → OfAll Goes (parts t) → Goes t
  goes t h =
      after_out (moved m t)
      ∙ (ap₂ (after_form (moved m t)) (fun_ext (λ i. ap after (part_moved m i t) ∙ at_part Goes absent_goes (parts t) h i))
      (ap (map after) (parts_moved m t) ∙ each_goes (parts t) h)
      ∙ (level t (λ i. before (part i t)) (map before (parts t)) ∙ ap along (sym (before_out t))))

  pub moved_along : (t : Tree) → after (moved m t) ≡ along (before t)
  moved_along = tree_ind Goes absent_goes (λ t n h. goes t h)

-- the same, where a move changes no level
module _ {A : Type 0} (m : Moves) (given : Tree → A) (form : Tree → (ℕ → A) → List A → A)
    (out : (t : Tree) → given t ≡ form t (λ i. given (part i t)) (map given (parts t)))
    (level : (t : Tree) (inside : ℕ → A) (each : List A) → form (moved m t) inside each ≡ form t inside each) where
  pub moved_stays : (t : Tree) → given (moved m t) ≡ given t
  moved_stays = moved_along m (λ a. a) given given form form out out refl
      (λ t inside each. ap (form (moved m t) inside) (map-id each) ∙ level t inside each)
