-- Two modules with a namespace, public both, that agree but for what is hidden: `namespace n.m {}` and `namespace n.m {
-- ; }`. What agrees stands at the place of no text. The empty statement begins at 7.
use Rattle.std.specs.Prelude.{◌≡◌, true, false, List, [], ◌∷◌}
use Rattle.fast_check_tree_syntax.specs.declared.kind.Kind.TheVariants as kinds
use Rattle.fast_check_tree_syntax.specs.declared.tree.Tree as tree
use Rattle.fast_check_tree_syntax.specs.declared.tree.Tree.{Tree}
use Rattle.fast_check_tree_syntax.specs.Shape.{none_range, node, list}
use Rattle.fast_check_tree_syntax.specs.Moves.{IsRenaming}
use Rattle.fast_check_tree_forms_statements.specs.TsDeclarations.{ts_module_decl, ts_module_block}
use Rattle.fast_check_tree_helpers.specs.Builders.{new_ident}
use Rattle.fast_check_meaning_skeleton.specs.ClassExample.{module_of, no_places, all_public}
use Rattle.fast_check_meaning_skeleton.specs.Example.{at}
use Rattle.fast_check_meaning_skeleton.specs.Hidden.{AgreeHidden}
use Rattle.fast_check_meaning_skeleton.specs.Namespaces.{inner_namespace}
use Rattle.fast_check_meaning_skeleton.specs.Skeleton.{skeleton_of}

-- `{ items }`, `m { items }` and `namespace n.m { items }`
abbrev pub block : List Tree → Tree
block items = ts_module_block none_range (list items)

abbrev pub inner : List Tree → Tree
inner items = inner_namespace none_range false false (new_ident (109 ∷ [])) (block items)

abbrev pub namespace_n : List Tree → Tree
namespace_n items = ts_module_decl none_range false false true (new_ident (110 ∷ [])) (inner items)

abbrev pub hidden : Tree
hidden = node kinds.EmptyStmt (tree.Range (at 7 8) ∷ [])

abbrev pub first : Tree
first = module_of (namespace_n [] ∷ [])

abbrev pub second : Tree
second = module_of (namespace_n (hidden ∷ []) ∷ [])

-- They agree, and the skeleton of both is the first.
pub record NamespaceExample : Type 0 where
  pub one_to_one : IsRenaming no_places
  pub agree : AgreeHidden no_places all_public all_public first second
  pub first_skeleton : skeleton_of all_public first ≡ first
  pub second_skeleton : skeleton_of all_public second ≡ first
