-- Written by forms/write.py from forms/forms.txt.
-- Classes, constructors and the rarer members.
-- Each form has its fields by their names, what it holds once it reads a node, and the node of its fields.
use Rattle.std.specs.Prelude.{◌≡◌, Bool, [], ◌∷◌}
use Rattle.fast_check_tree_syntax.specs.declared.kind.Kind.TheVariants as kinds
use Rattle.fast_check_tree_syntax.specs.declared.part.Part.{Part}
use Rattle.fast_check_tree_syntax.specs.declared.source.SourceRange.{SourceRange}
use Rattle.fast_check_tree_syntax.specs.declared.source.SyntaxContext.{SyntaxContext}
use Rattle.fast_check_tree_syntax.specs.declared.tree.Tree.{Tree, Range, Flag, Context}
use Rattle.fast_check_tree_syntax.specs.Part.{seen}
use Rattle.fast_check_tree_syntax.specs.Shape.{node, part, range_of, flag_of, context_of}
use Rattle.fast_check_tree_forms_classes.specs.declared.classes.Class.{Class}
use Rattle.fast_check_tree_forms_classes.specs.declared.classes.Constructor.{Constructor}
use Rattle.fast_check_tree_forms_classes.specs.declared.classes.TsParamProp.{TsParamProp}
use Rattle.fast_check_tree_forms_classes.specs.declared.classes.StaticBlock.{StaticBlock}
use Rattle.fast_check_tree_forms_classes.specs.declared.classes.TsIndexSignature.{TsIndexSignature}

-- `<type_params> extends super_class<super_type_params> implements implements { body }`, behind the name of a class.
abbrev pub Class-span : Tree → SourceRange
Class-span t = range_of (part 0 t)

abbrev pub Class-ctxt : Tree → SyntaxContext
Class-ctxt t = context_of (part 1 t)

abbrev pub Class-decorators : Tree → Tree
Class-decorators t = part 2 t

abbrev pub Class-body : Tree → Tree
Class-body t = part 3 t

abbrev pub Class-super_class : Tree → Tree
Class-super_class t = part 4 t

abbrev pub Class-is_abstract : Tree → Bool
Class-is_abstract t = flag_of (part 5 t)

abbrev pub Class-type_params : Tree → Tree
Class-type_params t = part 6 t

abbrev pub Class-super_type_params : Tree → Tree
Class-super_type_params t = part 7 t

abbrev pub Class-implements : Tree → Tree
Class-implements t = part 8 t

pub record ReadsClass (form : Class Part) (t : Tree) : Type 0 where
  pub span : form.span ≡ Class-span t
  pub ctxt : form.ctxt ≡ Class-ctxt t
  pub decorators : seen form.decorators ≡ Class-decorators t
  pub body : seen form.body ≡ Class-body t
  pub super_class : seen form.super_class ≡ Class-super_class t
  pub is_abstract : form.is_abstract ≡ Class-is_abstract t
  pub type_params : seen form.type_params ≡ Class-type_params t
  pub super_type_params : seen form.super_type_params ≡ Class-super_type_params t
  pub implements : seen form.implements ≡ Class-implements t

abbrev pub class : SourceRange → SyntaxContext → Tree → Tree → Tree → Bool → Tree → Tree → Tree → Tree
class span ctxt decorators body super_class is_abstract type_params super_type_params implements =
    node kinds.Class (Range span ∷ Context ctxt ∷ decorators ∷ body ∷ super_class ∷ Flag is_abstract ∷
    type_params ∷ super_type_params ∷ implements ∷ [])

-- `accessibility constructor(params) body`.
abbrev pub Constructor-span : Tree → SourceRange
Constructor-span t = range_of (part 0 t)

abbrev pub Constructor-ctxt : Tree → SyntaxContext
Constructor-ctxt t = context_of (part 1 t)

abbrev pub Constructor-key : Tree → Tree
Constructor-key t = part 2 t

abbrev pub Constructor-params : Tree → Tree
Constructor-params t = part 3 t

abbrev pub Constructor-body : Tree → Tree
Constructor-body t = part 4 t

abbrev pub Constructor-accessibility : Tree → Tree
Constructor-accessibility t = part 5 t

abbrev pub Constructor-is_optional : Tree → Bool
Constructor-is_optional t = flag_of (part 6 t)

pub record ReadsConstructor (form : Constructor Part) (t : Tree) : Type 0 where
  pub span : form.span ≡ Constructor-span t
  pub ctxt : form.ctxt ≡ Constructor-ctxt t
  pub key : seen form.key ≡ Constructor-key t
  pub params : seen form.params ≡ Constructor-params t
  pub body : seen form.body ≡ Constructor-body t
  pub accessibility : seen form.accessibility ≡ Constructor-accessibility t
  pub is_optional : form.is_optional ≡ Constructor-is_optional t

abbrev pub constructor : SourceRange → SyntaxContext → Tree → Tree → Tree → Tree → Bool → Tree
constructor span ctxt key params body accessibility is_optional =
    node kinds.Constructor (Range span ∷ Context ctxt ∷ key ∷ params ∷ body ∷ accessibility ∷
    Flag is_optional ∷ [])

-- A parameter of a constructor that is a property too: `accessibility param`.
abbrev pub TsParamProp-span : Tree → SourceRange
TsParamProp-span t = range_of (part 0 t)

abbrev pub TsParamProp-decorators : Tree → Tree
TsParamProp-decorators t = part 1 t

abbrev pub TsParamProp-accessibility : Tree → Tree
TsParamProp-accessibility t = part 2 t

abbrev pub TsParamProp-is_override : Tree → Bool
TsParamProp-is_override t = flag_of (part 3 t)

abbrev pub TsParamProp-readonly : Tree → Bool
TsParamProp-readonly t = flag_of (part 4 t)

abbrev pub TsParamProp-param : Tree → Tree
TsParamProp-param t = part 5 t

pub record ReadsTsParamProp (form : TsParamProp Part) (t : Tree) : Type 0 where
  pub span : form.span ≡ TsParamProp-span t
  pub decorators : seen form.decorators ≡ TsParamProp-decorators t
  pub accessibility : seen form.accessibility ≡ TsParamProp-accessibility t
  pub is_override : form.is_override ≡ TsParamProp-is_override t
  pub readonly : form.readonly ≡ TsParamProp-readonly t
  pub param : seen form.param ≡ TsParamProp-param t

abbrev pub ts_param_prop : SourceRange → Tree → Tree → Bool → Bool → Tree → Tree
ts_param_prop span decorators accessibility is_override readonly param =
    node kinds.TsParamProp (Range span ∷ decorators ∷ accessibility ∷ Flag is_override ∷ Flag readonly ∷
    param ∷ [])

-- `static body`.
abbrev pub StaticBlock-span : Tree → SourceRange
StaticBlock-span t = range_of (part 0 t)

abbrev pub StaticBlock-body : Tree → Tree
StaticBlock-body t = part 1 t

pub record ReadsStaticBlock (form : StaticBlock Part) (t : Tree) : Type 0 where
  pub span : form.span ≡ StaticBlock-span t
  pub body : seen form.body ≡ StaticBlock-body t

abbrev pub static_block : SourceRange → Tree → Tree
static_block span body = node kinds.StaticBlock (Range span ∷ body ∷ [])

-- `[params]: type_ann`, in a class, an interface or a type literal.
abbrev pub TsIndexSignature-span : Tree → SourceRange
TsIndexSignature-span t = range_of (part 0 t)

abbrev pub TsIndexSignature-params : Tree → Tree
TsIndexSignature-params t = part 1 t

abbrev pub TsIndexSignature-type_ann : Tree → Tree
TsIndexSignature-type_ann t = part 2 t

abbrev pub TsIndexSignature-readonly : Tree → Bool
TsIndexSignature-readonly t = flag_of (part 3 t)

abbrev pub TsIndexSignature-is_static : Tree → Bool
TsIndexSignature-is_static t = flag_of (part 4 t)

pub record ReadsTsIndexSignature (form : TsIndexSignature Part) (t : Tree) : Type 0 where
  pub span : form.span ≡ TsIndexSignature-span t
  pub params : seen form.params ≡ TsIndexSignature-params t
  pub type_ann : seen form.type_ann ≡ TsIndexSignature-type_ann t
  pub readonly : form.readonly ≡ TsIndexSignature-readonly t
  pub is_static : form.is_static ≡ TsIndexSignature-is_static t

abbrev pub ts_index_signature : SourceRange → Tree → Tree → Bool → Bool → Tree
ts_index_signature span params type_ann readonly is_static =
    node kinds.TsIndexSignature (Range span ∷ params ∷ type_ann ∷ Flag readonly ∷ Flag is_static ∷ [])
