-- Written by forms/write.py from forms/forms.txt.
-- Type parameters, type arguments and annotations.
-- Each form has its fields by their names, what it holds once it reads a node, and the node of its fields.
use Rattle.std.specs.Prelude.{◌≡◌, Bool, [], ◌∷◌}
use Rattle.fast_check_tree_syntax.specs.declared.kind.Kind.TheVariants as kinds
use Rattle.fast_check_tree_syntax.specs.declared.part.Part.{Part}
use Rattle.fast_check_tree_syntax.specs.declared.source.SourceRange.{SourceRange}
use Rattle.fast_check_tree_syntax.specs.declared.tree.Tree.{Tree, Range, Flag}
use Rattle.fast_check_tree_syntax.specs.Part.{seen}
use Rattle.fast_check_tree_syntax.specs.Shape.{node, part, range_of, flag_of}
use Rattle.fast_check_tree_forms_types.specs.declared.type_params.TsTypeParam.{TsTypeParam}
use Rattle.fast_check_tree_forms_types.specs.declared.type_params.TsTypeParamDecl.{TsTypeParamDecl}
use Rattle.fast_check_tree_forms_types.specs.declared.type_params.TsTypeParamInstantiation.{TsTypeParamInstantiation}
use Rattle.fast_check_tree_forms_types.specs.declared.type_params.TsTypeAnn.{TsTypeAnn}

-- `name extends constraint = default`.
abbrev pub TsTypeParam-span : Tree → SourceRange
TsTypeParam-span t = range_of (part 0 t)

abbrev pub TsTypeParam-name : Tree → Tree
TsTypeParam-name t = part 1 t

abbrev pub TsTypeParam-is_in : Tree → Bool
TsTypeParam-is_in t = flag_of (part 2 t)

abbrev pub TsTypeParam-is_out : Tree → Bool
TsTypeParam-is_out t = flag_of (part 3 t)

abbrev pub TsTypeParam-is_const : Tree → Bool
TsTypeParam-is_const t = flag_of (part 4 t)

abbrev pub TsTypeParam-constraint : Tree → Tree
TsTypeParam-constraint t = part 5 t

abbrev pub TsTypeParam-default : Tree → Tree
TsTypeParam-default t = part 6 t

pub record ReadsTsTypeParam (form : TsTypeParam Part) (t : Tree) : Type 0 where
  pub span : form.span ≡ TsTypeParam-span t
  pub name : seen form.name ≡ TsTypeParam-name t
  pub is_in : form.is_in ≡ TsTypeParam-is_in t
  pub is_out : form.is_out ≡ TsTypeParam-is_out t
  pub is_const : form.is_const ≡ TsTypeParam-is_const t
  pub constraint : seen form.constraint ≡ TsTypeParam-constraint t
  pub default : seen form.default ≡ TsTypeParam-default t

abbrev pub ts_type_param : SourceRange → Tree → Bool → Bool → Bool → Tree → Tree → Tree
ts_type_param span name is_in is_out is_const constraint default =
    node kinds.TsTypeParam (Range span ∷ name ∷ Flag is_in ∷ Flag is_out ∷ Flag is_const ∷ constraint ∷
    default ∷ [])

-- `<params>`, where they are declared.
abbrev pub TsTypeParamDecl-span : Tree → SourceRange
TsTypeParamDecl-span t = range_of (part 0 t)

abbrev pub TsTypeParamDecl-params : Tree → Tree
TsTypeParamDecl-params t = part 1 t

pub record ReadsTsTypeParamDecl (form : TsTypeParamDecl Part) (t : Tree) : Type 0 where
  pub span : form.span ≡ TsTypeParamDecl-span t
  pub params : seen form.params ≡ TsTypeParamDecl-params t

abbrev pub ts_type_param_decl : SourceRange → Tree → Tree
ts_type_param_decl span params = node kinds.TsTypeParamDecl (Range span ∷ params ∷ [])

-- `<params>`, as arguments.
abbrev pub TsTypeParamInstantiation-span : Tree → SourceRange
TsTypeParamInstantiation-span t = range_of (part 0 t)

abbrev pub TsTypeParamInstantiation-params : Tree → Tree
TsTypeParamInstantiation-params t = part 1 t

pub record ReadsTsTypeParamInstantiation (form : TsTypeParamInstantiation Part) (t : Tree) : Type 0 where
  pub span : form.span ≡ TsTypeParamInstantiation-span t
  pub params : seen form.params ≡ TsTypeParamInstantiation-params t

abbrev pub ts_type_param_instantiation : SourceRange → Tree → Tree
ts_type_param_instantiation span params = node kinds.TsTypeParamInstantiation (Range span ∷ params ∷ [])

-- `: type_ann`.
abbrev pub TsTypeAnn-span : Tree → SourceRange
TsTypeAnn-span t = range_of (part 0 t)

abbrev pub TsTypeAnn-type_ann : Tree → Tree
TsTypeAnn-type_ann t = part 1 t

pub record ReadsTsTypeAnn (form : TsTypeAnn Part) (t : Tree) : Type 0 where
  pub span : form.span ≡ TsTypeAnn-span t
  pub type_ann : seen form.type_ann ≡ TsTypeAnn-type_ann t

abbrev pub ts_type_ann : SourceRange → Tree → Tree
ts_type_ann span type_ann = node kinds.TsTypeAnn (Range span ∷ type_ann ∷ [])
