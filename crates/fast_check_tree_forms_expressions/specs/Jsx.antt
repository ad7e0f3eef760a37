-- Written by forms/write.py from forms/forms.txt.
-- JSX, held as it is written.
-- Each form has its fields by their names, what it holds once it reads a node, and the node of its fields.
use Rattle.std.specs.Prelude.{◌≡◌, ℕ, List, [], ◌∷◌}
use Rattle.std.specs.Borrow.{Bor}
use Rattle.fast_check_tree_syntax.specs.declared.kind.Kind.TheVariants as kinds
use Rattle.fast_check_tree_syntax.specs.declared.source.SourceRange.{SourceRange}
use Rattle.fast_check_tree_syntax.specs.declared.tree.Tree.{Tree, Range, Text}
use Rattle.fast_check_tree_syntax.specs.Shape.{node, part, range_of, text_of}
use Rattle.fast_check_tree_forms_expressions.specs.declared.jsx.JSXMember.{JSXMember}
use Rattle.fast_check_tree_forms_expressions.specs.declared.jsx.JSXNamespacedName.{JSXNamespacedName}
use Rattle.fast_check_tree_forms_expressions.specs.declared.jsx.JSXEmpty.{JSXEmpty}
use Rattle.fast_check_tree_forms_expressions.specs.declared.jsx.JSXElement.{JSXElement}
use Rattle.fast_check_tree_forms_expressions.specs.declared.jsx.JSXFragment.{JSXFragment}

-- `a.b` as the name of a JSX tag.
abbrev pub JSXMember-span : Tree → SourceRange
JSXMember-span t = range_of (part 0 t)

abbrev pub JSXMember-raw : Tree → List ℕ
JSXMember-raw t = text_of (part 1 t)

pub record ReadsJSXMember (form : JSXMember (Bor (List ℕ))) (t : Tree) : Type 0 where
  pub span : form.span ≡ JSXMember-span t
  pub raw : form.raw.now ≡ JSXMember-raw t

abbrev pub jsx_member : SourceRange → List ℕ → Tree
jsx_member span raw = node kinds.JSXMember (Range span ∷ Text raw ∷ [])

-- `a:b` as a name in JSX.
abbrev pub JSXNamespacedName-span : Tree → SourceRange
JSXNamespacedName-span t = range_of (part 0 t)

abbrev pub JSXNamespacedName-raw : Tree → List ℕ
JSXNamespacedName-raw t = text_of (part 1 t)

pub record ReadsJSXNamespacedName (form : JSXNamespacedName (Bor (List ℕ))) (t : Tree) : Type 0 where
  pub span : form.span ≡ JSXNamespacedName-span t
  pub raw : form.raw.now ≡ JSXNamespacedName-raw t

abbrev pub jsx_namespaced_name : SourceRange → List ℕ → Tree
jsx_namespaced_name span raw = node kinds.JSXNamespacedName (Range span ∷ Text raw ∷ [])

-- What stands between the braces of `{}` in JSX.
abbrev pub JSXEmpty-span : Tree → SourceRange
JSXEmpty-span t = range_of (part 0 t)

abbrev pub JSXEmpty-raw : Tree → List ℕ
JSXEmpty-raw t = text_of (part 1 t)

pub record ReadsJSXEmpty (form : JSXEmpty (Bor (List ℕ))) (t : Tree) : Type 0 where
  pub span : form.span ≡ JSXEmpty-span t
  pub raw : form.raw.now ≡ JSXEmpty-raw t

abbrev pub jsx_empty : SourceRange → List ℕ → Tree
jsx_empty span raw = node kinds.JSXEmpty (Range span ∷ Text raw ∷ [])

-- `<a>..</a>` or `<a />`.
abbrev pub JSXElement-span : Tree → SourceRange
JSXElement-span t = range_of (part 0 t)

abbrev pub JSXElement-raw : Tree → List ℕ
JSXElement-raw t = text_of (part 1 t)

pub record ReadsJSXElement (form : JSXElement (Bor (List ℕ))) (t : Tree) : Type 0 where
  pub span : form.span ≡ JSXElement-span t
  pub raw : form.raw.now ≡ JSXElement-raw t

abbrev pub jsx_element : SourceRange → List ℕ → Tree
jsx_element span raw = node kinds.JSXElement (Range span ∷ Text raw ∷ [])

-- `<>..</>`.
abbrev pub JSXFragment-span : Tree → SourceRange
JSXFragment-span t = range_of (part 0 t)

abbrev pub JSXFragment-raw : Tree → List ℕ
JSXFragment-raw t = text_of (part 1 t)

pub record ReadsJSXFragment (form : JSXFragment (Bor (List ℕ))) (t : Tree) : Type 0 where
  pub span : form.span ≡ JSXFragment-span t
  pub raw : form.raw.now ≡ JSXFragment-raw t

abbrev pub jsx_fragment : SourceRange → List ℕ → Tree
jsx_fragment span raw = node kinds.JSXFragment (Range span ∷ Text raw ∷ [])
