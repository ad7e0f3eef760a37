-- Two modules with an import and a default export that agree but for what is hidden:
-- `import { h, x } from "./a"; export default function (): void {}`, and
-- `import { x, g, h } from "./a"; export default function (): void { ; }`.
-- What agrees stands at the place of no text, and is public. What is hidden of the imports begins at 9 and at 12.
use Rattle.std.specs.Prelude.{◌≡◌, ℕ, ◌==◌, false, Some, None, List, [], ◌∷◌}
use Rattle.fast_check_tree_syntax.specs.declared.kind.Kind.TheVariants as kinds
use Rattle.fast_check_tree_syntax.specs.declared.source.SourceRange.{SourceRange}
use Rattle.fast_check_tree_syntax.specs.declared.tree.Tree as tree
use Rattle.fast_check_tree_syntax.specs.declared.tree.Tree.{Tree, Absent}
use Rattle.fast_check_tree_syntax.specs.Shape.{none_range, node, list}
use Rattle.fast_check_tree_syntax.specs.Moves.{IsRenaming}
use Rattle.fast_check_tree_forms_expressions.specs.Expressions.{fn_expr}
use Rattle.fast_check_tree_forms_programs.specs.Literals.{str}
use Rattle.fast_check_tree_forms_programs.specs.ModuleDecls.{import_decl, export_default_decl}
use Rattle.fast_check_tree_helpers.specs.Builders.{new_ident}
use Rattle.fast_check_meaning_skeleton.specs.HiddenChanges.{void_function}
use Rattle.fast_check_meaning_skeleton.specs.ClassExample.{empty_statement, module_of, no_places, no_classes}
use Rattle.fast_check_meaning_skeleton.specs.Example.{at}
use Rattle.fast_check_meaning_skeleton.specs.Hidden.{AgreeHidden}
use Rattle.fast_check_meaning_skeleton.specs.SameImportsExports.{SameSource}
use Rattle.fast_check_meaning_skeleton.specs.Skeleton.{skeleton_of}
use Rattle.fast_check_meaning_expandos.specs.Objects.{no_objects}
use Rattle.fast_check_meaning_skeleton.specs.ModuleFacts.{ModuleFacts}

-- a specifier of a name at a place
abbrev pub specifier : SourceRange → ℕ → Tree
specifier place letter = node kinds.ImportNamedSpecifier
    (tree.Range place ∷ new_ident (letter ∷ []) ∷ Absent ∷ tree.Flag false ∷ [])

abbrev pub x : Tree
x = specifier none_range 120

abbrev pub g : Tree
g = specifier (at 9 10) 103

abbrev pub h : Tree
h = specifier (at 12 13) 104

-- `"./a"` and `"./a.ts"`
abbrev pub written_source : Tree
written_source = str none_range (46 ∷ 47 ∷ 97 ∷ []) Absent

abbrev pub resolved : List ℕ
resolved = 46 ∷ 47 ∷ 97 ∷ 46 ∷ 116 ∷ 115 ∷ []

-- `import { specifiers } from source`
abbrev pub import_of : List Tree → Tree → Tree
import_of specifiers source = import_decl none_range (list specifiers) source false Absent []

-- `export default function (): void { stmts }`
abbrev pub default_function : List Tree → Tree
default_function stmts = export_default_decl none_range (fn_expr Absent (void_function [] stmts))

abbrev pub first : Tree
first = module_of (import_of (h ∷ x ∷ []) written_source ∷ default_function [] ∷ [])

abbrev pub second : Tree
second = module_of (import_of (x ∷ g ∷ h ∷ []) written_source ∷ default_function (empty_statement ∷ []) ∷ [])

-- what stands at the place of no text is public; `"./a.ts"` stands for the sources
abbrev pub facts : ModuleFacts
facts = record {
  is_public = λ r. r.start.0 == 0;
  is_implementation = λ r. false;
  bindings = no_classes;
  is_ambient = false;
  relative = λ text. Some resolved;
  objects = no_objects;
}

-- the same, where sources stand as they are written
abbrev pub unresolving : ModuleFacts
unresolving = record {
  is_public = facts.is_public;
  is_implementation = facts.is_implementation;
  bindings = no_classes;
  is_ambient = false;
  relative = λ text. None;
  objects = no_objects;
}

abbrev pub answered : Tree
answered = module_of (import_of (x ∷ []) (str none_range resolved Absent) ∷ default_function [] ∷ [])

-- They agree, and the skeleton of both is `import { x } from "./a.ts"; export default function (): void {}`.
pub record ModuleExample : Type 0 where
  pub one_to_one : IsRenaming no_places
  pub agree : AgreeHidden no_places facts facts first second
  pub first_skeleton : skeleton_of facts first ≡ answered
  pub second_skeleton : skeleton_of facts second ≡ answered
  -- sources for which other texts stand do not agree
  pub other_source : SameSource no_places facts unresolving written_source written_source → ⊥
