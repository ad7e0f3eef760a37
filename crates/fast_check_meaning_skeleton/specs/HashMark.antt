-- The law on `#private`, which says to a type checker that a class has members of its own.
use Rattle.std.specs.Prelude.{◌≡◌, Bool, Some, List, [], ◌∷◌, ◌++◌, if◌then◌else◌}
use Rattle.std.specs.List.{list_any, filter}
use Rattle.fast_check_tree_syntax.specs.declared.source.SourceRange.{SourceRange}
use Rattle.fast_check_tree_syntax.specs.declared.tree.Tree.{Tree}
use Rattle.fast_check_tree_syntax.specs.Shape.{parts}
use Rattle.fast_check_tree_forms_classes.specs.Classes.{Class-body}
use Rattle.fast_check_meaning_signatures.specs.Bindings.{Bindings}
use Rattle.fast_check_meaning_signatures.specs.Answers.{answer_to}
use Rattle.fast_check_meaning_signatures.specs.NewNodes.{hash_private}
use Rattle.fast_check_meaning_signatures.specs.Members.{is_hash_named}
use Rattle.fast_check_meaning_signatures.specs.Classes.{plain_class_seen}

-- In the skeleton of a class that is not ambient `#private!: unknown` stands first exactly if the class had a method, a
-- property or an accessor with a hash name, and no other member with a hash name stands there.
pub record IsMarked (class skeleton : Tree) : Type 0 where
  pub rest : List Tree
  pub members : parts
      (Class-body skeleton) ≡ (if list_any is_hash_named (parts (Class-body class)) then hash_private ∷ [] else []) ++
      rest
  pub others : filter is_hash_named rest ≡ []

abbrev pub HashMarked : Tree → Type 0
HashMarked class = (bindings : Bindings) (is_implementation : SourceRange → Bool) (skeleton : Tree) →
    (answer_to (plain_class_seen bindings is_implementation class)).stays ≡ Some skeleton → IsMarked class skeleton
