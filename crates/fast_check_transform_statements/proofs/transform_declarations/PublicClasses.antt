-- What is answered to classes that are public by a place, and to those that are not.
use Rattle.std.specs.Prelude.{◌≡◌, Bool, true, false, Some, List, [], ◌∷◌, if◌then◌else◌}
use Rattle.std.proofs.Common.{ap}
use Rattle.fast_check_tree_syntax.specs.declared.source.SourceRange.{SourceRange}
use Rattle.fast_check_tree_syntax.specs.declared.tree.Tree.{Tree}
use Rattle.fast_check_meaning_signatures.specs.declared.fault.Fault.{Fault}
use Rattle.fast_check_meaning_signatures.specs.Seen.{Seen}
use Rattle.fast_check_meaning_signatures.specs.Answers.{Adds, answer_to, answer_of}
use Rattle.fast_check_meaning_signatures.proofs.Adding.{adds_nothing, adds_same}
use Rattle.fast_check_transform_imports.specs.skeleton.ModuleFacts.{ModuleFacts}
use Rattle.fast_check_transform_imports.specs.skeleton.Visible.{class_decl_seen}
use Rattle.fast_check_transform_statements.specs.transform_declarations.ClassAnswers.{public_class_answer}
use Rattle.fast_check_transform_imports.proofs.module_facts.Listed.{alone}

module _ (facts : ModuleFacts) (place : SourceRange) (decl : Tree) where
  abbrev if_public : Bool → Seen → List Seen
  if_public p seen = if p then seen ∷ [] else []

  pub class_stays : facts.is_public place ≡ true → {t : Tree} {old new : List Fault} →
      Adds (answer_to (class_decl_seen facts decl)) (Some t) old new → Adds (public_class_answer facts place decl) (t ∷ []) old new
  unfolding public_class_answer
  class_stays e h = adds_same (ap (λ p. answer_of (if_public p (class_decl_seen facts decl))) e) (alone (class_decl_seen facts decl) h)

  pub class_goes : facts.is_public place ≡ false → (old : List Fault) → Adds (public_class_answer facts place decl) [] old old
  unfolding public_class_answer
  class_goes e old = adds_same (ap (λ p. answer_of (if_public p (class_decl_seen facts decl))) e) (adds_nothing [] old)
