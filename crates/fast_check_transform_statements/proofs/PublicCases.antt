-- What is answered to declarations that are public by a place, and to those that are not.
use Rattle.std.specs.Prelude.{◌≡◌, Bool, true, false, Some, List, [], ◌∷◌, if◌then◌else◌}
use Rattle.std.proofs.Common.{ap, ◌∙◌, sym}
use Rattle.fast_check_tree_syntax.specs.declared.source.SourceRange.{SourceRange}
use Rattle.fast_check_tree_syntax.specs.declared.tree.Tree.{Tree}
use Rattle.fast_check_meaning_signatures.specs.declared.fault.Fault.{Fault}
use Rattle.fast_check_meaning_signatures.specs.Seen.{Seen, written}
use Rattle.fast_check_meaning_signatures.specs.Answers.{Adds, faultless, answer_to, answer_of}
use Rattle.fast_check_meaning_signatures.proofs.Adding.{adds_nothing, adds_same}
use Rattle.fast_check_transform_imports.specs.skeleton.ModuleFacts.{ModuleFacts}
use Rattle.fast_check_transform_imports.specs.skeleton.Visible.{function_decl_seen}
use Rattle.fast_check_transform_statements.specs.PartAnswers.{public_function_answer, standing_answer}
use Rattle.fast_check_transform_imports.proofs.module_facts.Listed.{alone}

module _ (facts : ModuleFacts) (place : SourceRange) (decl : Tree) where
  abbrev if_public : Bool → Seen → List Seen
  if_public p seen = if p then seen ∷ [] else []

  pub function_stays : facts.is_public place ≡ true → {t : Tree} {old new : List Fault} →
      Adds (answer_to (function_decl_seen facts place decl)) (Some t) old new →
      Adds (public_function_answer facts place decl) (t ∷ []) old new
  unfolding public_function_answer
  function_stays e h = adds_same (ap (λ p. answer_of (if_public p (function_decl_seen facts place decl))) e)
      (alone (function_decl_seen facts place decl) h)

  pub function_goes : facts.is_public place ≡ false → (old : List Fault) → Adds (public_function_answer facts place decl) [] old old
  unfolding public_function_answer
  function_goes e old = adds_same (ap (λ p. answer_of (if_public p (function_decl_seen facts place decl))) e) (adds_nothing [] old)

  pub standing_stays : facts.is_public place ≡ true → {t : Tree} → t ≡ decl → standing_answer facts place decl ≡ faultless (t ∷ [])
  unfolding standing_answer
  standing_stays e p = ap (λ p. answer_of (if_public p (written decl))) e ∙ ap (λ u. faultless (u ∷ [])) (sym p)

  pub standing_goes : facts.is_public place ≡ false → standing_answer facts place decl ≡ faultless []
  unfolding standing_answer
  standing_goes e = ap (λ p. answer_of (if_public p (written decl))) e
