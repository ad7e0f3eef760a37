-- Written by forms/write.py from forms/forms.txt.
-- Names.
-- Each form has its fields by their names, what it holds once it reads a node, and the node of its fields.
use Rattle.std.specs.Prelude.{◌≡◌, Bool, ℕ, List, [], ◌∷◌}
use Rattle.std.specs.Borrow.{Bor}
use Rattle.fast_check_tree_syntax.specs.declared.kind.Kind.TheVariants as kinds
use Rattle.fast_check_tree_syntax.specs.declared.part.Part.{Part}
use Rattle.fast_check_tree_syntax.specs.declared.source.SourceRange.{SourceRange}
use Rattle.fast_check_tree_syntax.specs.declared.source.SyntaxContext.{SyntaxContext}
use Rattle.fast_check_tree_syntax.specs.declared.tree.Tree.{Tree, Range, Flag, Context, Text}
use Rattle.fast_check_tree_syntax.specs.Part.{seen}
use Rattle.fast_check_tree_syntax.specs.Shape.{node, part, range_of, text_of, flag_of, context_of}
use Rattle.fast_check_tree_forms_programs.specs.declared.names.Ident.{Ident}
use Rattle.fast_check_tree_forms_programs.specs.declared.names.IdentName.{IdentName}
use Rattle.fast_check_tree_forms_programs.specs.declared.names.BindingIdent.{BindingIdent}
use Rattle.fast_check_tree_forms_programs.specs.declared.names.PrivateName.{PrivateName}

-- An identifier: `sym`. As a parameter that may be left out, `sym?`.
abbrev pub Ident-span : Tree → SourceRange
Ident-span t = range_of (part 0 t)

abbrev pub Ident-ctxt : Tree → SyntaxContext
Ident-ctxt t = context_of (part 1 t)

abbrev pub Ident-sym : Tree → List ℕ
Ident-sym t = text_of (part 2 t)

abbrev pub Ident-optional : Tree → Bool
Ident-optional t = flag_of (part 3 t)

pub record ReadsIdent (form : Ident (Bor (List ℕ))) (t : Tree) : Type 0 where
  pub span : form.span ≡ Ident-span t
  pub ctxt : form.ctxt ≡ Ident-ctxt t
  pub sym : form.sym.now ≡ Ident-sym t
  pub optional : form.optional ≡ Ident-optional t

abbrev pub ident : SourceRange → SyntaxContext → List ℕ → Bool → Tree
ident span ctxt sym optional = node kinds.Ident (Range span ∷ Context ctxt ∷ Text sym ∷ Flag optional ∷ [])

-- A name that is not resolved, as `b` in `a.b`: `sym`.
abbrev pub IdentName-span : Tree → SourceRange
IdentName-span t = range_of (part 0 t)

abbrev pub IdentName-sym : Tree → List ℕ
IdentName-sym t = text_of (part 1 t)

pub record ReadsIdentName (form : IdentName (Bor (List ℕ))) (t : Tree) : Type 0 where
  pub span : form.span ≡ IdentName-span t
  pub sym : form.sym.now ≡ IdentName-sym t

abbrev pub ident_name : SourceRange → List ℕ → Tree
ident_name span sym = node kinds.IdentName (Range span ∷ Text sym ∷ [])

-- An identifier as a pattern: `id: type_ann`.
abbrev pub BindingIdent-id : Tree → Tree
BindingIdent-id t = part 0 t

abbrev pub BindingIdent-type_ann : Tree → Tree
BindingIdent-type_ann t = part 1 t

pub record ReadsBindingIdent (form : BindingIdent Part) (t : Tree) : Type 0 where
  pub id : seen form.id ≡ BindingIdent-id t
  pub type_ann : seen form.type_ann ≡ BindingIdent-type_ann t

abbrev pub binding_ident : Tree → Tree → Tree
binding_ident id type_ann = node kinds.BindingIdent (id ∷ type_ann ∷ [])

-- A hash name: `#name`.
abbrev pub PrivateName-span : Tree → SourceRange
PrivateName-span t = range_of (part 0 t)

abbrev pub PrivateName-name : Tree → List ℕ
PrivateName-name t = text_of (part 1 t)

pub record ReadsPrivateName (form : PrivateName (Bor (List ℕ))) (t : Tree) : Type 0 where
  pub span : form.span ≡ PrivateName-span t
  pub name : form.name.now ≡ PrivateName-name t

abbrev pub private_name : SourceRange → List ℕ → Tree
private_name span name = node kinds.PrivateName (Range span ∷ Text name ∷ [])
