-- Written by forms/write.py from forms/forms.txt.
-- Templates.
-- Each form has its fields by their names, what it holds once it reads a node, and the node of its fields.
use Rattle.std.specs.Prelude.{◌≡◌, Bool, ℕ, List, [], ◌∷◌}
use Rattle.std.specs.Borrow.{Bor}
use Rattle.fast_check_tree_syntax.specs.declared.kind.Kind.TheVariants as kinds
use Rattle.fast_check_tree_syntax.specs.declared.part.Part.{Part}
use Rattle.fast_check_tree_syntax.specs.declared.source.SourceRange.{SourceRange}
use Rattle.fast_check_tree_syntax.specs.declared.source.SyntaxContext.{SyntaxContext}
use Rattle.fast_check_tree_syntax.specs.declared.tree.Tree.{Tree, Range, Flag, Context, Text}
use Rattle.fast_check_tree_syntax.specs.Part.{seen}
use Rattle.fast_check_tree_syntax.specs.Shape.{node, part, range_of, text_of, flag_of, context_of}
use Rattle.fast_check_tree_forms_expressions.specs.declared.templates.Tpl.{Tpl}
use Rattle.fast_check_tree_forms_expressions.specs.declared.templates.TplElement.{TplElement}
use Rattle.fast_check_tree_forms_expressions.specs.declared.templates.TaggedTpl.{TaggedTpl}

-- A template, its substitutions `exprs` between its texts `quasis`.
abbrev pub Tpl-span : Tree → SourceRange
Tpl-span t = range_of (part 0 t)

abbrev pub Tpl-exprs : Tree → Tree
Tpl-exprs t = part 1 t

abbrev pub Tpl-quasis : Tree → Tree
Tpl-quasis t = part 2 t

pub record ReadsTpl (form : Tpl Part) (t : Tree) : Type 0 where
  pub span : form.span ≡ Tpl-span t
  pub exprs : seen form.exprs ≡ Tpl-exprs t
  pub quasis : seen form.quasis ≡ Tpl-quasis t

abbrev pub tpl : SourceRange → Tree → Tree → Tree
tpl span exprs quasis = node kinds.Tpl (Range span ∷ exprs ∷ quasis ∷ [])

-- A text of a template.
abbrev pub TplElement-span : Tree → SourceRange
TplElement-span t = range_of (part 0 t)

abbrev pub TplElement-tail : Tree → Bool
TplElement-tail t = flag_of (part 1 t)

abbrev pub TplElement-cooked : Tree → Tree
TplElement-cooked t = part 2 t

abbrev pub TplElement-raw : Tree → List ℕ
TplElement-raw t = text_of (part 3 t)

pub record ReadsTplElement (form : TplElement Part (Bor (List ℕ))) (t : Tree) : Type 0 where
  pub span : form.span ≡ TplElement-span t
  pub tail : form.tail ≡ TplElement-tail t
  pub cooked : seen form.cooked ≡ TplElement-cooked t
  pub raw : form.raw.now ≡ TplElement-raw t

abbrev pub tpl_element : SourceRange → Bool → Tree → List ℕ → Tree
tpl_element span tail cooked raw = node kinds.TplElement (Range span ∷ Flag tail ∷ cooked ∷ Text raw ∷ [])

-- A template behind a function: `tag<type_params>tpl`.
abbrev pub TaggedTpl-span : Tree → SourceRange
TaggedTpl-span t = range_of (part 0 t)

abbrev pub TaggedTpl-ctxt : Tree → SyntaxContext
TaggedTpl-ctxt t = context_of (part 1 t)

abbrev pub TaggedTpl-tag : Tree → Tree
TaggedTpl-tag t = part 2 t

abbrev pub TaggedTpl-type_params : Tree → Tree
TaggedTpl-type_params t = part 3 t

abbrev pub TaggedTpl-tpl : Tree → Tree
TaggedTpl-tpl t = part 4 t

pub record ReadsTaggedTpl (form : TaggedTpl Part) (t : Tree) : Type 0 where
  pub span : form.span ≡ TaggedTpl-span t
  pub ctxt : form.ctxt ≡ TaggedTpl-ctxt t
  pub tag : seen form.tag ≡ TaggedTpl-tag t
  pub type_params : seen form.type_params ≡ TaggedTpl-type_params t
  pub tpl : seen form.tpl ≡ TaggedTpl-tpl t

abbrev pub tagged_tpl : SourceRange → SyntaxContext → Tree → Tree → Tree → Tree
tagged_tpl span ctxt tag type_params tpl =
    node kinds.TaggedTpl (Range span ∷ Context ctxt ∷ tag ∷ type_params ∷ tpl ∷ [])
