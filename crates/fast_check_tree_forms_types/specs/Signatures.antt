-- Written by forms/write.py from forms/forms.txt.
-- Function types, and the members of interfaces and type literals.
-- Each form has its fields by their names, what it holds once it reads a node, and the node of its fields.
use Rattle.std.specs.Prelude.{◌≡◌, Bool, [], ◌∷◌}
use Rattle.fast_check_tree_syntax.specs.declared.kind.Kind.TheVariants as kinds
use Rattle.fast_check_tree_syntax.specs.declared.part.Part.{Part}
use Rattle.fast_check_tree_syntax.specs.declared.source.SourceRange.{SourceRange}
use Rattle.fast_check_tree_syntax.specs.declared.tree.Tree.{Tree, Range, Flag}
use Rattle.fast_check_tree_syntax.specs.Part.{seen}
use Rattle.fast_check_tree_syntax.specs.Shape.{node, part, range_of, flag_of}
use Rattle.fast_check_tree_forms_types.specs.declared.signatures.TsFnType.{TsFnType}
use Rattle.fast_check_tree_forms_types.specs.declared.signatures.TsConstructorType.{TsConstructorType}
use Rattle.fast_check_tree_forms_types.specs.declared.signatures.TsCallSignatureDecl.{TsCallSignatureDecl}
use Rattle.fast_check_tree_forms_types.specs.declared.signatures.TsConstructSignatureDecl.{TsConstructSignatureDecl}
use Rattle.fast_check_tree_forms_types.specs.declared.signatures.TsPropertySignature.{TsPropertySignature}
use Rattle.fast_check_tree_forms_types.specs.declared.signatures.TsGetterSignature.{TsGetterSignature}
use Rattle.fast_check_tree_forms_types.specs.declared.signatures.TsSetterSignature.{TsSetterSignature}
use Rattle.fast_check_tree_forms_types.specs.declared.signatures.TsMethodSignature.{TsMethodSignature}

-- `<type_params>(params) => type_ann`.
abbrev pub TsFnType-span : Tree → SourceRange
TsFnType-span t = range_of (part 0 t)

abbrev pub TsFnType-params : Tree → Tree
TsFnType-params t = part 1 t

abbrev pub TsFnType-type_params : Tree → Tree
TsFnType-type_params t = part 2 t

abbrev pub TsFnType-type_ann : Tree → Tree
TsFnType-type_ann t = part 3 t

abbrev pub TsFnType-is_abstract : Tree → Bool
TsFnType-is_abstract t = flag_of (part 4 t)

pub record ReadsTsFnType (form : TsFnType Part) (t : Tree) : Type 0 where
  pub span : form.span ≡ TsFnType-span t
  pub params : seen form.params ≡ TsFnType-params t
  pub type_params : seen form.type_params ≡ TsFnType-type_params t
  pub type_ann : seen form.type_ann ≡ TsFnType-type_ann t
  pub is_abstract : form.is_abstract ≡ TsFnType-is_abstract t

abbrev pub ts_fn_type : SourceRange → Tree → Tree → Tree → Bool → Tree
ts_fn_type span params type_params type_ann is_abstract =
    node kinds.TsFnType (Range span ∷ params ∷ type_params ∷ type_ann ∷ Flag is_abstract ∷ [])

-- `new <type_params>(params) => type_ann`.
abbrev pub TsConstructorType-span : Tree → SourceRange
TsConstructorType-span t = range_of (part 0 t)

abbrev pub TsConstructorType-params : Tree → Tree
TsConstructorType-params t = part 1 t

abbrev pub TsConstructorType-type_params : Tree → Tree
TsConstructorType-type_params t = part 2 t

abbrev pub TsConstructorType-type_ann : Tree → Tree
TsConstructorType-type_ann t = part 3 t

abbrev pub TsConstructorType-is_abstract : Tree → Bool
TsConstructorType-is_abstract t = flag_of (part 4 t)

pub record ReadsTsConstructorType (form : TsConstructorType Part) (t : Tree) : Type 0 where
  pub span : form.span ≡ TsConstructorType-span t
  pub params : seen form.params ≡ TsConstructorType-params t
  pub type_params : seen form.type_params ≡ TsConstructorType-type_params t
  pub type_ann : seen form.type_ann ≡ TsConstructorType-type_ann t
  pub is_abstract : form.is_abstract ≡ TsConstructorType-is_abstract t

abbrev pub ts_constructor_type : SourceRange → Tree → Tree → Tree → Bool → Tree
ts_constructor_type span params type_params type_ann is_abstract =
    node kinds.TsConstructorType (Range span ∷ params ∷ type_params ∷ type_ann ∷ Flag is_abstract ∷ [])

-- `<type_params>(params): type_ann`.
abbrev pub TsCallSignatureDecl-span : Tree → SourceRange
TsCallSignatureDecl-span t = range_of (part 0 t)

abbrev pub TsCallSignatureDecl-params : Tree → Tree
TsCallSignatureDecl-params t = part 1 t

abbrev pub TsCallSignatureDecl-type_ann : Tree → Tree
TsCallSignatureDecl-type_ann t = part 2 t

abbrev pub TsCallSignatureDecl-type_params : Tree → Tree
TsCallSignatureDecl-type_params t = part 3 t

pub record ReadsTsCallSignatureDecl (form : TsCallSignatureDecl Part) (t : Tree) : Type 0 where
  pub span : form.span ≡ TsCallSignatureDecl-span t
  pub params : seen form.params ≡ TsCallSignatureDecl-params t
  pub type_ann : seen form.type_ann ≡ TsCallSignatureDecl-type_ann t
  pub type_params : seen form.type_params ≡ TsCallSignatureDecl-type_params t

abbrev pub ts_call_signature_decl : SourceRange → Tree → Tree → Tree → Tree
ts_call_signature_decl span params type_ann type_params =
    node kinds.TsCallSignatureDecl (Range span ∷ params ∷ type_ann ∷ type_params ∷ [])

-- `new <type_params>(params): type_ann`.
abbrev pub TsConstructSignatureDecl-span : Tree → SourceRange
TsConstructSignatureDecl-span t = range_of (part 0 t)

abbrev pub TsConstructSignatureDecl-params : Tree → Tree
TsConstructSignatureDecl-params t = part 1 t

abbrev pub TsConstructSignatureDecl-type_ann : Tree → Tree
TsConstructSignatureDecl-type_ann t = part 2 t

abbrev pub TsConstructSignatureDecl-type_params : Tree → Tree
TsConstructSignatureDecl-type_params t = part 3 t

pub record ReadsTsConstructSignatureDecl (form : TsConstructSignatureDecl Part) (t : Tree) : Type 0 where
  pub span : form.span ≡ TsConstructSignatureDecl-span t
  pub params : seen form.params ≡ TsConstructSignatureDecl-params t
  pub type_ann : seen form.type_ann ≡ TsConstructSignatureDecl-type_ann t
  pub type_params : seen form.type_params ≡ TsConstructSignatureDecl-type_params t

abbrev pub ts_construct_signature_decl : SourceRange → Tree → Tree → Tree → Tree
ts_construct_signature_decl span params type_ann type_params =
    node kinds.TsConstructSignatureDecl (Range span ∷ params ∷ type_ann ∷ type_params ∷ [])

-- `key: type_ann`.
abbrev pub TsPropertySignature-span : Tree → SourceRange
TsPropertySignature-span t = range_of (part 0 t)

abbrev pub TsPropertySignature-key : Tree → Tree
TsPropertySignature-key t = part 1 t

abbrev pub TsPropertySignature-computed : Tree → Bool
TsPropertySignature-computed t = flag_of (part 2 t)

abbrev pub TsPropertySignature-readonly : Tree → Bool
TsPropertySignature-readonly t = flag_of (part 3 t)

abbrev pub TsPropertySignature-optional : Tree → Bool
TsPropertySignature-optional t = flag_of (part 4 t)

abbrev pub TsPropertySignature-type_ann : Tree → Tree
TsPropertySignature-type_ann t = part 5 t

pub record ReadsTsPropertySignature (form : TsPropertySignature Part) (t : Tree) : Type 0 where
  pub span : form.span ≡ TsPropertySignature-span t
  pub key : seen form.key ≡ TsPropertySignature-key t
  pub computed : form.computed ≡ TsPropertySignature-computed t
  pub readonly : form.readonly ≡ TsPropertySignature-readonly t
  pub optional : form.optional ≡ TsPropertySignature-optional t
  pub type_ann : seen form.type_ann ≡ TsPropertySignature-type_ann t

abbrev pub ts_property_signature : SourceRange → Tree → Bool → Bool → Bool → Tree → Tree
ts_property_signature span key computed readonly optional type_ann =
    node kinds.TsPropertySignature (Range span ∷ key ∷ Flag computed ∷ Flag readonly ∷ Flag optional ∷
    type_ann ∷ [])

-- `get key(): type_ann`.
abbrev pub TsGetterSignature-span : Tree → SourceRange
TsGetterSignature-span t = range_of (part 0 t)

abbrev pub TsGetterSignature-key : Tree → Tree
TsGetterSignature-key t = part 1 t

abbrev pub TsGetterSignature-computed : Tree → Bool
TsGetterSignature-computed t = flag_of (part 2 t)

abbrev pub TsGetterSignature-type_ann : Tree → Tree
TsGetterSignature-type_ann t = part 3 t

pub record ReadsTsGetterSignature (form : TsGetterSignature Part) (t : Tree) : Type 0 where
  pub span : form.span ≡ TsGetterSignature-span t
  pub key : seen form.key ≡ TsGetterSignature-key t
  pub computed : form.computed ≡ TsGetterSignature-computed t
  pub type_ann : seen form.type_ann ≡ TsGetterSignature-type_ann t

abbrev pub ts_getter_signature : SourceRange → Tree → Bool → Tree → Tree
ts_getter_signature span key computed type_ann =
    node kinds.TsGetterSignature (Range span ∷ key ∷ Flag computed ∷ type_ann ∷ [])

-- `set key(params)`.
abbrev pub TsSetterSignature-span : Tree → SourceRange
TsSetterSignature-span t = range_of (part 0 t)

abbrev pub TsSetterSignature-key : Tree → Tree
TsSetterSignature-key t = part 1 t

abbrev pub TsSetterSignature-computed : Tree → Bool
TsSetterSignature-computed t = flag_of (part 2 t)

abbrev pub TsSetterSignature-params : Tree → Tree
TsSetterSignature-params t = part 3 t

pub record ReadsTsSetterSignature (form : TsSetterSignature Part) (t : Tree) : Type 0 where
  pub span : form.span ≡ TsSetterSignature-span t
  pub key : seen form.key ≡ TsSetterSignature-key t
  pub computed : form.computed ≡ TsSetterSignature-computed t
  pub params : seen form.params ≡ TsSetterSignature-params t

abbrev pub ts_setter_signature : SourceRange → Tree → Bool → Tree → Tree
ts_setter_signature span key computed params =
    node kinds.TsSetterSignature (Range span ∷ key ∷ Flag computed ∷ params ∷ [])

-- `key<type_params>(params): type_ann`.
abbrev pub TsMethodSignature-span : Tree → SourceRange
TsMethodSignature-span t = range_of (part 0 t)

abbrev pub TsMethodSignature-key : Tree → Tree
TsMethodSignature-key t = part 1 t

abbrev pub TsMethodSignature-computed : Tree → Bool
TsMethodSignature-computed t = flag_of (part 2 t)

abbrev pub TsMethodSignature-optional : Tree → Bool
TsMethodSignature-optional t = flag_of (part 3 t)

abbrev pub TsMethodSignature-params : Tree → Tree
TsMethodSignature-params t = part 4 t

abbrev pub TsMethodSignature-type_ann : Tree → Tree
TsMethodSignature-type_ann t = part 5 t

abbrev pub TsMethodSignature-type_params : Tree → Tree
TsMethodSignature-type_params t = part 6 t

pub record ReadsTsMethodSignature (form : TsMethodSignature Part) (t : Tree) : Type 0 where
  pub span : form.span ≡ TsMethodSignature-span t
  pub key : seen form.key ≡ TsMethodSignature-key t
  pub computed : form.computed ≡ TsMethodSignature-computed t
  pub optional : form.optional ≡ TsMethodSignature-optional t
  pub params : seen form.params ≡ TsMethodSignature-params t
  pub type_ann : seen form.type_ann ≡ TsMethodSignature-type_ann t
  pub type_params : seen form.type_params ≡ TsMethodSignature-type_params t

abbrev pub ts_method_signature : SourceRange → Tree → Bool → Bool → Tree → Tree → Tree → Tree
ts_method_signature span key computed optional params type_ann type_params =
    node kinds.TsMethodSignature (Range span ∷ key ∷ Flag computed ∷ Flag optional ∷ params ∷ type_ann ∷
    type_params ∷ [])
