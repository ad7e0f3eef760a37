-- What is seen of two sources is alike if it is equal once each position and scope number is written by its partner.
use Rattle.std.specs.Prelude.{◌≡◌, Bool, true, false, Option, List, [], ◌∷◌, ◌++◌, map, refl, if◌then◌else◌}
use Rattle.std.proofs.Common.{ap, ap₂, ◌∙◌, sym, subst₂}
use Rattle.std.proofs.lemmas.List.{map-append}
use Rattle.fast_check_tree_syntax.specs.declared.kind.Kind.{Kind}
use Rattle.fast_check_tree_syntax.specs.declared.source.SourceRange.{SourceRange}
use Rattle.fast_check_tree_syntax.specs.declared.source.SyntaxContext.{SyntaxContext}
use Rattle.fast_check_tree_syntax.specs.declared.tree.Tree.{Tree}
use Rattle.fast_check_tree_syntax.specs.Moves.{Renaming, IsRenaming, IsPair, partners, twice}
use Rattle.fast_check_tree_syntax.specs.Same.{SameTree, SameRange}
use Rattle.fast_check_tree_syntax.proofs.Same.{tree_to, range_to}
use Rattle.fast_check_meaning_signatures.specs.declared.fault.FaultKind.{FaultKind}
use Rattle.fast_check_meaning_signatures.specs.Seen.{Seen, written, range, scope, flag, round, listed, faulty, seens}
use Rattle.fast_check_meaning_signatures.specs.Typing.{seen_by}
use Rattle.fast_check_meaning_signatures.proofs.MovedParts.{moved_seen, moved_seens, seens_moved}
use Rattle.fast_check_meaning_skeleton.specs.SameValues.{SameTypes, NoTypes}
use Rattle.fast_check_meaning_skeleton.proofs.AlikeTrees.{TreeAlike, RangeAlike, range_leaf_alike, scope_leaf_alike, flag_leaf_alike}

module _ (r : Renaming) (ok : IsRenaming r) where
  abbrev pub Alike : Seen → Seen → Type 0
  Alike s t = moved_seen (partners r) s ≡ moved_seen twice t

  abbrev pub AllAlike : List Seen → List Seen → Type 0
  AllAlike ss ts = map (moved_seen (partners r)) ss ≡ map (moved_seen twice) ts

  pub written_alike : (t u : Tree) → TreeAlike r ok t u → Alike (written t) (written u)
  written_alike t u e = ap written e

  pub same_written : {t u : Tree} → SameTree r t u → Alike (written t) (written u)
  same_written s = ap written (tree_to r ok s)

  pub range_alike : (a b : SourceRange) → SameRange r a b → Alike (range a) (range b)
  range_alike a b s = ap written (range_leaf_alike r ok a b (range_to r ok a b s))

  pub scope_alike : (a b : SyntaxContext) → IsPair r.scopes a.0 b.0 → Alike (scope a) (scope b)
  scope_alike a b p = ap written (scope_leaf_alike r ok a b p)

  pub flag_alike : (x y : Bool) → x ≡ y → Alike (flag x) (flag y)
  flag_alike x y e = ap written (flag_leaf_alike r ok x y e)

  pub faulty_alike : (kind : FaultKind) (a b : SourceRange) → RangeAlike r ok a b → Alike (faulty kind a) (faulty kind b)
  faulty_alike kind a b e = ap (faulty kind) e

  pub alike_if : (a b : Bool) (s s' t t' : Seen) → a ≡ b → (a ≡ true → Alike s t) → (a ≡ false → Alike s' t') →
      Alike (if a then s else s') (if b then t else t')
  alike_if true true s s' t t' e p q = p refl
  alike_if false false s s' t t' e p q = q refl
  alike_if true false s s' t t' e p q = cc
  alike_if false true s s' t t' e p q = cc

  -- what is seen with types that agree, and without one
  pub given_alike : {o p : Option Tree} (f g : Tree → Seen) (s t : Seen) → SameTypes r o p →
      ((x y : Tree) → TreeAlike r ok x y → Alike (f x) (g y)) → Alike (seen_by o f s) (seen_by p g t)
  given_alike f g s t h e =
      subst₂ (λ o p. Alike (seen_by o f s) (seen_by p g t)) (sym h.left_is) (sym h.right_is) (e h.left h.right (tree_to r ok h.types))

  pub none_alike : {o p : Option Tree} (f g : Tree → Seen) (s t : Seen) → NoTypes o p → Alike s t →
      Alike (seen_by o f s) (seen_by p g t)
  none_alike f g s t h e = subst₂ (λ o p. Alike (seen_by o f s) (seen_by p g t)) (sym h.left) (sym h.right) e

  pub all_alike_if : (a b : Bool) (s t : Seen) → a ≡ b → Alike s t → AllAlike (if a then s ∷ [] else []) (if b then t ∷ [] else [])
  all_alike_if true true s t e p = ap (λ x. x ∷ []) p
  all_alike_if false false s t e p = refl
  all_alike_if true false s t e p = cc
  all_alike_if false true s t e p = cc

  pub append_alike : (a b c d : List Seen) → AllAlike a c → AllAlike b d → AllAlike (a ++ b) (c ++ d)
  append_alike a b c d p q = map-append (moved_seen (partners r)) a b ∙ (ap₂ (λ x y. x ++ y) p q ∙ sym (map-append (moved_seen twice) c d))

  pub seens_alike : (ss ts : List Seen) → AllAlike ss ts → moved_seens (partners r) (seens ss) ≡ moved_seens twice (seens ts)
  seens_alike ss ts p = sym (seens_moved (partners r) ss) ∙ (ap seens p ∙ seens_moved twice ts)

  pub round_alike : (k : Kind) (ss ts : List Seen) → AllAlike ss ts → Alike (round k (seens ss)) (round k (seens ts))
  round_alike k ss ts p = ap (round k) (seens_alike ss ts p)

  pub listed_alike : (ss ts : List Seen) → AllAlike ss ts → Alike (listed (seens ss)) (listed (seens ts))
  listed_alike ss ts p = ap listed (seens_alike ss ts p)
