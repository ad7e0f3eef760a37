-- Written by forms/write.py from forms/forms.txt.
-- Functions, their parameters, and decorators.
-- Each form has its fields by their names, what it holds once it reads a node, and the node of its fields.
use Rattle.std.specs.Prelude.{◌≡◌, Bool, [], ◌∷◌}
use Rattle.fast_check_tree_syntax.specs.declared.kind.Kind.TheVariants as kinds
use Rattle.fast_check_tree_syntax.specs.declared.part.Part.{Part}
use Rattle.fast_check_tree_syntax.specs.declared.source.SourceRange.{SourceRange}
use Rattle.fast_check_tree_syntax.specs.declared.source.SyntaxContext.{SyntaxContext}
use Rattle.fast_check_tree_syntax.specs.declared.tree.Tree.{Tree, Range, Flag, Context}
use Rattle.fast_check_tree_syntax.specs.Part.{seen}
use Rattle.fast_check_tree_syntax.specs.Shape.{node, part, range_of, flag_of, context_of}
use Rattle.fast_check_tree_forms_classes.specs.declared.functions.Function.{Function}
use Rattle.fast_check_tree_forms_classes.specs.declared.functions.Param.{Param}
use Rattle.fast_check_tree_forms_classes.specs.declared.functions.Decorator.{Decorator}

-- `<type_params>(params): return_type body`, behind the name of a function or a method.
abbrev pub Function-span : Tree → SourceRange
Function-span t = range_of (part 0 t)

abbrev pub Function-params : Tree → Tree
Function-params t = part 1 t

abbrev pub Function-decorators : Tree → Tree
Function-decorators t = part 2 t

abbrev pub Function-ctxt : Tree → SyntaxContext
Function-ctxt t = context_of (part 3 t)

abbrev pub Function-body : Tree → Tree
Function-body t = part 4 t

abbrev pub Function-is_generator : Tree → Bool
Function-is_generator t = flag_of (part 5 t)

abbrev pub Function-is_async : Tree → Bool
Function-is_async t = flag_of (part 6 t)

abbrev pub Function-type_params : Tree → Tree
Function-type_params t = part 7 t

abbrev pub Function-return_type : Tree → Tree
Function-return_type t = part 8 t

pub record ReadsFunction (form : Function Part) (t : Tree) : Type 0 where
  pub span : form.span ≡ Function-span t
  pub params : seen form.params ≡ Function-params t
  pub decorators : seen form.decorators ≡ Function-decorators t
  pub ctxt : form.ctxt ≡ Function-ctxt t
  pub body : seen form.body ≡ Function-body t
  pub is_generator : form.is_generator ≡ Function-is_generator t
  pub is_async : form.is_async ≡ Function-is_async t
  pub type_params : seen form.type_params ≡ Function-type_params t
  pub return_type : seen form.return_type ≡ Function-return_type t

abbrev pub function : SourceRange → Tree → Tree → SyntaxContext → Tree → Bool → Bool → Tree → Tree → Tree
function span params decorators ctxt body is_generator is_async type_params return_type =
    node kinds.Function (Range span ∷ params ∷ decorators ∷ Context ctxt ∷ body ∷ Flag is_generator ∷
    Flag is_async ∷ type_params ∷ return_type ∷ [])

-- `decorators pat`.
abbrev pub Param-span : Tree → SourceRange
Param-span t = range_of (part 0 t)

abbrev pub Param-decorators : Tree → Tree
Param-decorators t = part 1 t

abbrev pub Param-pat : Tree → Tree
Param-pat t = part 2 t

pub record ReadsParam (form : Param Part) (t : Tree) : Type 0 where
  pub span : form.span ≡ Param-span t
  pub decorators : seen form.decorators ≡ Param-decorators t
  pub pat : seen form.pat ≡ Param-pat t

abbrev pub param : SourceRange → Tree → Tree → Tree
param span decorators pat = node kinds.Param (Range span ∷ decorators ∷ pat ∷ [])

-- `@expr`.
abbrev pub Decorator-span : Tree → SourceRange
Decorator-span t = range_of (part 0 t)

abbrev pub Decorator-expr : Tree → Tree
Decorator-expr t = part 1 t

pub record ReadsDecorator (form : Decorator Part) (t : Tree) : Type 0 where
  pub span : form.span ≡ Decorator-span t
  pub expr : seen form.expr ≡ Decorator-expr t

abbrev pub decorator : SourceRange → Tree → Tree
decorator span expr = node kinds.Decorator (Range span ∷ expr ∷ [])
