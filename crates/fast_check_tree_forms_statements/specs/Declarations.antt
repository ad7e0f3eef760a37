-- Written by forms/write.py from forms/forms.txt.
-- Declarations.
-- Each form has its fields by their names, what it holds once it reads a node, and the node of its fields.
use Rattle.std.specs.Prelude.{◌≡◌, Bool, [], ◌∷◌}
use Rattle.fast_check_tree_syntax.specs.declared.kind.Kind.TheVariants as kinds
use Rattle.fast_check_tree_syntax.specs.declared.part.Part.{Part}
use Rattle.fast_check_tree_syntax.specs.declared.source.SourceRange.{SourceRange}
use Rattle.fast_check_tree_syntax.specs.declared.source.SyntaxContext.{SyntaxContext}
use Rattle.fast_check_tree_syntax.specs.declared.tree.Tree.{Tree, Range, Flag, Context}
use Rattle.fast_check_tree_syntax.specs.Part.{seen}
use Rattle.fast_check_tree_syntax.specs.Shape.{node, part, range_of, flag_of, context_of}
use Rattle.fast_check_tree_forms_statements.specs.declared.declarations.ClassDecl.{ClassDecl}
use Rattle.fast_check_tree_forms_statements.specs.declared.declarations.FnDecl.{FnDecl}
use Rattle.fast_check_tree_forms_statements.specs.declared.declarations.VarDecl.{VarDecl}
use Rattle.fast_check_tree_forms_statements.specs.declared.declarations.VarDeclarator.{VarDeclarator}
use Rattle.fast_check_tree_forms_statements.specs.declared.declarations.UsingDecl.{UsingDecl}

-- `class ident ..`, with the rest in `class`.
abbrev pub ClassDecl-ident : Tree → Tree
ClassDecl-ident t = part 0 t

abbrev pub ClassDecl-declare : Tree → Bool
ClassDecl-declare t = flag_of (part 1 t)

abbrev pub ClassDecl-class : Tree → Tree
ClassDecl-class t = part 2 t

pub record ReadsClassDecl (form : ClassDecl Part) (t : Tree) : Type 0 where
  pub ident : seen form.ident ≡ ClassDecl-ident t
  pub declare : form.declare ≡ ClassDecl-declare t
  pub class : seen form.class ≡ ClassDecl-class t

abbrev pub class_decl : Tree → Bool → Tree → Tree
class_decl ident declare class = node kinds.ClassDecl (ident ∷ Flag declare ∷ class ∷ [])

-- `function ident ..`, with the rest in `function`.
abbrev pub FnDecl-ident : Tree → Tree
FnDecl-ident t = part 0 t

abbrev pub FnDecl-declare : Tree → Bool
FnDecl-declare t = flag_of (part 1 t)

abbrev pub FnDecl-function : Tree → Tree
FnDecl-function t = part 2 t

pub record ReadsFnDecl (form : FnDecl Part) (t : Tree) : Type 0 where
  pub ident : seen form.ident ≡ FnDecl-ident t
  pub declare : form.declare ≡ FnDecl-declare t
  pub function : seen form.function ≡ FnDecl-function t

abbrev pub fn_decl : Tree → Bool → Tree → Tree
fn_decl ident declare function = node kinds.FnDecl (ident ∷ Flag declare ∷ function ∷ [])

-- `kind decls;`, as `const a = 1;`.
abbrev pub VarDecl-span : Tree → SourceRange
VarDecl-span t = range_of (part 0 t)

abbrev pub VarDecl-ctxt : Tree → SyntaxContext
VarDecl-ctxt t = context_of (part 1 t)

abbrev pub VarDecl-kind : Tree → Tree
VarDecl-kind t = part 2 t

abbrev pub VarDecl-declare : Tree → Bool
VarDecl-declare t = flag_of (part 3 t)

abbrev pub VarDecl-decls : Tree → Tree
VarDecl-decls t = part 4 t

pub record ReadsVarDecl (form : VarDecl Part) (t : Tree) : Type 0 where
  pub span : form.span ≡ VarDecl-span t
  pub ctxt : form.ctxt ≡ VarDecl-ctxt t
  pub kind : seen form.kind ≡ VarDecl-kind t
  pub declare : form.declare ≡ VarDecl-declare t
  pub decls : seen form.decls ≡ VarDecl-decls t

abbrev pub var_decl : SourceRange → SyntaxContext → Tree → Bool → Tree → Tree
var_decl span ctxt kind declare decls =
    node kinds.VarDecl (Range span ∷ Context ctxt ∷ kind ∷ Flag declare ∷ decls ∷ [])

-- `name = init`.
abbrev pub VarDeclarator-span : Tree → SourceRange
VarDeclarator-span t = range_of (part 0 t)

abbrev pub VarDeclarator-name : Tree → Tree
VarDeclarator-name t = part 1 t

abbrev pub VarDeclarator-init : Tree → Tree
VarDeclarator-init t = part 2 t

abbrev pub VarDeclarator-definite : Tree → Bool
VarDeclarator-definite t = flag_of (part 3 t)

pub record ReadsVarDeclarator (form : VarDeclarator Part) (t : Tree) : Type 0 where
  pub span : form.span ≡ VarDeclarator-span t
  pub name : seen form.name ≡ VarDeclarator-name t
  pub init : seen form.init ≡ VarDeclarator-init t
  pub definite : form.definite ≡ VarDeclarator-definite t

abbrev pub var_declarator : SourceRange → Tree → Tree → Bool → Tree
var_declarator span name init definite = node kinds.VarDeclarator (Range span ∷ name ∷ init ∷ Flag definite ∷ [])

-- `using decls;`.
abbrev pub UsingDecl-span : Tree → SourceRange
UsingDecl-span t = range_of (part 0 t)

abbrev pub UsingDecl-is_await : Tree → Bool
UsingDecl-is_await t = flag_of (part 1 t)

abbrev pub UsingDecl-decls : Tree → Tree
UsingDecl-decls t = part 2 t

pub record ReadsUsingDecl (form : UsingDecl Part) (t : Tree) : Type 0 where
  pub span : form.span ≡ UsingDecl-span t
  pub is_await : form.is_await ≡ UsingDecl-is_await t
  pub decls : seen form.decls ≡ UsingDecl-decls t

abbrev pub using_decl : SourceRange → Bool → Tree → Tree
using_decl span is_await decls = node kinds.UsingDecl (Range span ∷ Flag is_await ∷ decls ∷ [])
