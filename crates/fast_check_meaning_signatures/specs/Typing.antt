-- What gives the type of a declaration: of a variable, a property, an accessor, a parameter with a default, or a property that a
-- parameter declares. It is one rule for all of these.
use Rattle.std.specs.Prelude.{Bool, Option, Some, None, option_map, if◌then◌else◌}
use Rattle.fast_check_tree_syntax.specs.declared.source.SyntaxContext.{SyntaxContext}
use Rattle.fast_check_tree_syntax.specs.declared.tree.Tree.{Tree}
use Rattle.fast_check_tree_syntax.specs.Shape.{is_absent}
use Rattle.fast_check_tree_helpers.specs.declared.literal_type.DeclMutabilityKind.{DeclMutabilityKind}
use Rattle.fast_check_tree_helpers.specs.Builders.{type_ann, any_type_ann}
use Rattle.fast_check_tree_helpers.specs.InferredType.{inferred_type}
use Rattle.fast_check_meaning_signatures.specs.Seen.{Seen}

-- whether it is private, its written type and its value, each of which may be absent, and whether the value stays the same
pub record Typing : Type 0 where
  pub is_private : Bool
  pub type : Tree
  pub value : Tree
  pub mutability : DeclMutabilityKind

module _ (unresolved : SyntaxContext) where
  -- a private one is of any type; else it is of the written type, or of the one that its value shows, if it shows one
  abbrev pub type_of : Typing → Option Tree
  type_of d =
      if d.is_private then Some any_type_ann
      else (if is_absent d.type then option_map type_ann (inferred_type d.mutability unresolved d.value) else Some d.type)

-- what is seen of it: with its type, or else without one
abbrev pub seen_by : Option Tree → (Tree → Seen) → Seen → Seen
seen_by (Some type) typed untyped = typed type
seen_by None typed untyped = untyped
