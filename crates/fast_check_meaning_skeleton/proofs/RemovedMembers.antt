-- Where members begin, and that of two classes which agree those that go begin at partners, or where no partner is.
use Rattle.std.specs.Prelude.{◌≡◌, ℕ, ◌==◌, Bool, true, false, ◌||◌, List, [], ◌∷◌, ◌++◌, map, refl, if◌then◌else◌}
use Rattle.std.specs.Bool.{one_answer}
use Rattle.std.specs.Cmp.{unsigned_Decides}
use Rattle.std.specs.List.{list_any}
use Rattle.std.proofs.Common.{ap, ap₂, ◌∙◌, sym, subst, subst₂, eqb-true, eq-eqb}
use Rattle.fast_check_tree_syntax.specs.declared.source.SourcePos.{SourcePos}
use Rattle.fast_check_tree_syntax.specs.declared.source.SourceRange.{SourceRange}
use Rattle.fast_check_tree_syntax.specs.declared.tree.Tree.{Tree}
use Rattle.fast_check_tree_syntax.specs.Shape.{parts}
use Rattle.fast_check_tree_syntax.specs.Moves.{Renaming, IsRenaming, IsPair}
use Rattle.fast_check_tree_syntax.specs.Same.{SameRange}
use Rattle.fast_check_tree_helpers.specs.ranges.Ranges.{range_of_node}
use Rattle.fast_check_tree_forms_classes.specs.Classes.{Class-body}
use Rattle.fast_check_meaning_signatures.specs.Bindings.{Bindings}
use Rattle.fast_check_meaning_signatures.specs.Members.{stays_behind, each_behind, if_removed}
use Rattle.fast_check_meaning_skeleton.specs.SameClasses.{HasNoPartner, IsNoPartner, SameMember, SameMembers, SameClass}
use Rattle.fast_check_meaning_skeleton.specs.SameClasses as s
use Rattle.fast_check_meaning_skeleton.proofs.AlikeMembers.{silent, SameTaken, taken_left, taken_right, taken_next, stays_alike}
use Rattle.fast_check_meaning_skeleton.specs.KeptComments.{starts_of_removed}
use Rattle.fast_check_meaning_skeleton.proofs.ItemRanges.{range_of_constructor, range_of_method, range_of_property, range_of_accessor, range_alike}

-- whether a position is one of the starts
abbrev pub is_among : ℕ → List SourcePos → Bool
is_among p starts = list_any (λ s. s.0 == p) starts

module _ (r : Renaming) (ok : IsRenaming r) where
  pub one_start : (p q x y : ℕ) → IsPair r.starts p q → IsPair r.starts x y → (x == p) ≡ (y == q)
  one_start p q x y h k =
      let same = ok.starts.same x p y q k h in
      one_answer (x == p) (y == q) (unsigned_Decides x p) (λ e. same.1 (eqb-true y q e), λ e. eq-eqb y q (same.0 e))

  pub no_left : (p q x : ℕ) → IsPair r.starts p q → HasNoPartner r.starts x → (x == p) ≡ false
  no_left p q x h n = go (x == p) refl
    where
      go : (b : Bool) → (x == p) ≡ b → b ≡ false
      go false e = refl
      go true e = absurd (n q (subst (λ z. IsPair r.starts z q) (sym (eqb-true x p e)) h))

  pub no_right : (p q y : ℕ) → IsPair r.starts p q → IsNoPartner r.starts y → (y == q) ≡ false
  no_right p q y h n = go (y == q) refl
    where
      go : (b : Bool) → (y == q) ≡ b → b ≡ false
      go false e = refl
      go true e = absurd (n p (subst (λ z. IsPair r.starts p z) (sym (eqb-true y q e)) h))

  module _ (c d : Bindings) (f g : SourceRange → Bool) where
    member_begins : (t u : Tree) → SameMember r c d f g t u → SameRange r (range_of_node t) (range_of_node u)
    member_begins t u (s.SameMember.constructor h x) =
        subst₂ (SameRange r) (sym (range_of_constructor t h.kinds.left)) (sym (range_of_constructor u h.kinds.right)) h.span
    member_begins t u (s.SameMember.private_method k h p) = subst₂ (SameRange r) (sym (range_of_method t k.left))
        (sym (range_of_method u k.right)) h.span
    member_begins t u (s.SameMember.method k h x) = subst₂ (SameRange r) (sym (range_of_method t k.left))
        (sym (range_of_method u k.right)) h.span
    member_begins t u (s.SameMember.property k h x) = subst₂ (SameRange r) (sym (range_of_property t k.left))
        (sym (range_of_property u k.right)) h.span
    member_begins t u (s.SameMember.accessor k h x) = subst₂ (SameRange r) (sym (range_of_accessor t k.left))
        (sym (range_of_accessor u k.right)) h.span
    member_begins t u (s.SameMember.index_signature k x) = range_alike r ok t u x

    module _ (p q : ℕ) (pair : IsPair r.starts p q) where
      abbrev starts_at : List Tree → List SourcePos
      starts_at ms = map (λ m. (range_of_node m).start) ms

      abbrev removed_behind : List Tree → List Tree → List Tree
      removed_behind earlier ms = each_behind if_removed earlier ms

      abbrev one_if : Tree → Bool → List Tree
      one_if m stays = if stays then [] else m ∷ []

      next_removed : (x y : Bool) (t u : Tree) (ts us : List Tree) → x ≡ y → SameRange r (range_of_node t) (range_of_node u) →
          is_among p (starts_at ts) ≡ is_among q (starts_at us) →
          is_among p (starts_at (one_if t x ++ ts)) ≡ is_among q (starts_at (one_if u y ++ us))
      next_removed true true t u ts us e s rest = rest
      next_removed false false t u ts us e s rest =
          ap₂ (λ m n. m || n) (one_start p q (range_of_node t).start.0 (range_of_node u).start.0 pair s.start) rest
      next_removed true false t u ts us e s rest = cc
      next_removed false true t u ts us e s rest = cc

      members_removed : (earlier earlier' ts us : List Tree) → SameTaken earlier earlier' → SameMembers r c d f g earlier earlier' ts us →
          is_among p (starts_at (removed_behind earlier ts)) ≡ is_among q (starts_at (removed_behind earlier' us))
      members_removed earlier earlier' [] [] e s.SameMembers.end = refl
      members_removed earlier earlier' (t ∷ ts) us e (s.SameMembers.left x n rest) =
          ap (λ b. is_among p (starts_at (one_if t b ++ removed_behind (t ∷ earlier) ts))) (silent earlier t x).goes
          ∙ (ap (λ b. b || is_among p (starts_at (removed_behind (t ∷ earlier) ts))) (no_left p q (range_of_node t).start.0 pair n)
          ∙ members_removed (t ∷ earlier) earlier' ts us (taken_left earlier earlier' t x e) rest)
      members_removed earlier earlier' ts (u ∷ us) e (s.SameMembers.right x n rest) =
          members_removed earlier (u ∷ earlier') ts us (taken_right earlier earlier' u x e) rest
          ∙ sym (ap (λ b. is_among q (starts_at (one_if u b ++ removed_behind (u ∷ earlier') us))) (silent earlier' u x).goes
          ∙ ap (λ b. b || is_among q (starts_at (removed_behind (u ∷ earlier') us))) (no_right p q (range_of_node u).start.0 pair n))
      members_removed earlier earlier' (t ∷ ts) (u ∷ us) e (s.SameMembers.next x rest) =
          let same = stays_alike r ok c d f g t u x in
          next_removed (stays_behind earlier t) (stays_behind earlier' u) t u _ _ (same.stays earlier earlier' e) (member_begins t u x)
          (members_removed (t ∷ earlier) (u ∷ earlier') ts us (taken_next r ok earlier earlier' t u same e) rest)

      pub class_removed : (t u : Tree) → SameClass r c d f g t u → is_among p (starts_of_removed t) ≡ is_among q (starts_of_removed u)
      class_removed t u h =
          members_removed [] [] (parts (Class-body t)) (parts (Class-body u))
          (record { names = λ name. refl; implementations = refl }) h.members
