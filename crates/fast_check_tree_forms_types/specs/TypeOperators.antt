-- Written by forms/write.py from forms/forms.txt.
-- Types that are computed from others, and predicates.
-- Each form has its fields by their names, what it holds once it reads a node, and the node of its fields.
use Rattle.std.specs.Prelude.{◌≡◌, Bool, [], ◌∷◌}
use Rattle.fast_check_tree_syntax.specs.declared.kind.Kind.TheVariants as kinds
use Rattle.fast_check_tree_syntax.specs.declared.part.Part.{Part}
use Rattle.fast_check_tree_syntax.specs.declared.source.SourceRange.{SourceRange}
use Rattle.fast_check_tree_syntax.specs.declared.tree.Tree.{Tree, Range, Flag}
use Rattle.fast_check_tree_syntax.specs.Part.{seen}
use Rattle.fast_check_tree_syntax.specs.Shape.{node, part, range_of, flag_of}
use Rattle.fast_check_tree_forms_types.specs.declared.type_operators.TsConditionalType.{TsConditionalType}
use Rattle.fast_check_tree_forms_types.specs.declared.type_operators.TsInferType.{TsInferType}
use Rattle.fast_check_tree_forms_types.specs.declared.type_operators.TsTypeOperator.{TsTypeOperator}
use Rattle.fast_check_tree_forms_types.specs.declared.type_operators.TsIndexedAccessType.{TsIndexedAccessType}
use Rattle.fast_check_tree_forms_types.specs.declared.type_operators.TsMappedType.{TsMappedType}
use Rattle.fast_check_tree_forms_types.specs.declared.type_operators.TsTypePredicate.{TsTypePredicate}

-- `check_type extends extends_type ? true_type : false_type`.
abbrev pub TsConditionalType-span : Tree → SourceRange
TsConditionalType-span t = range_of (part 0 t)

abbrev pub TsConditionalType-check_type : Tree → Tree
TsConditionalType-check_type t = part 1 t

abbrev pub TsConditionalType-extends_type : Tree → Tree
TsConditionalType-extends_type t = part 2 t

abbrev pub TsConditionalType-true_type : Tree → Tree
TsConditionalType-true_type t = part 3 t

abbrev pub TsConditionalType-false_type : Tree → Tree
TsConditionalType-false_type t = part 4 t

pub record ReadsTsConditionalType (form : TsConditionalType Part) (t : Tree) : Type 0 where
  pub span : form.span ≡ TsConditionalType-span t
  pub check_type : seen form.check_type ≡ TsConditionalType-check_type t
  pub extends_type : seen form.extends_type ≡ TsConditionalType-extends_type t
  pub true_type : seen form.true_type ≡ TsConditionalType-true_type t
  pub false_type : seen form.false_type ≡ TsConditionalType-false_type t

abbrev pub ts_conditional_type : SourceRange → Tree → Tree → Tree → Tree → Tree
ts_conditional_type span check_type extends_type true_type false_type =
    node kinds.TsConditionalType (Range span ∷ check_type ∷ extends_type ∷ true_type ∷ false_type ∷ [])

-- `infer type_param`.
abbrev pub TsInferType-span : Tree → SourceRange
TsInferType-span t = range_of (part 0 t)

abbrev pub TsInferType-type_param : Tree → Tree
TsInferType-type_param t = part 1 t

pub record ReadsTsInferType (form : TsInferType Part) (t : Tree) : Type 0 where
  pub span : form.span ≡ TsInferType-span t
  pub type_param : seen form.type_param ≡ TsInferType-type_param t

abbrev pub ts_infer_type : SourceRange → Tree → Tree
ts_infer_type span type_param = node kinds.TsInferType (Range span ∷ type_param ∷ [])

-- `op type_ann`, as `keyof a`.
abbrev pub TsTypeOperator-span : Tree → SourceRange
TsTypeOperator-span t = range_of (part 0 t)

abbrev pub TsTypeOperator-op : Tree → Tree
TsTypeOperator-op t = part 1 t

abbrev pub TsTypeOperator-type_ann : Tree → Tree
TsTypeOperator-type_ann t = part 2 t

pub record ReadsTsTypeOperator (form : TsTypeOperator Part) (t : Tree) : Type 0 where
  pub span : form.span ≡ TsTypeOperator-span t
  pub op : seen form.op ≡ TsTypeOperator-op t
  pub type_ann : seen form.type_ann ≡ TsTypeOperator-type_ann t

abbrev pub ts_type_operator : SourceRange → Tree → Tree → Tree
ts_type_operator span op type_ann = node kinds.TsTypeOperator (Range span ∷ op ∷ type_ann ∷ [])

-- `obj_type[index_type]`.
abbrev pub TsIndexedAccessType-span : Tree → SourceRange
TsIndexedAccessType-span t = range_of (part 0 t)

abbrev pub TsIndexedAccessType-readonly : Tree → Bool
TsIndexedAccessType-readonly t = flag_of (part 1 t)

abbrev pub TsIndexedAccessType-obj_type : Tree → Tree
TsIndexedAccessType-obj_type t = part 2 t

abbrev pub TsIndexedAccessType-index_type : Tree → Tree
TsIndexedAccessType-index_type t = part 3 t

pub record ReadsTsIndexedAccessType (form : TsIndexedAccessType Part) (t : Tree) : Type 0 where
  pub span : form.span ≡ TsIndexedAccessType-span t
  pub readonly : form.readonly ≡ TsIndexedAccessType-readonly t
  pub obj_type : seen form.obj_type ≡ TsIndexedAccessType-obj_type t
  pub index_type : seen form.index_type ≡ TsIndexedAccessType-index_type t

abbrev pub ts_indexed_access_type : SourceRange → Bool → Tree → Tree → Tree
ts_indexed_access_type span readonly obj_type index_type =
    node kinds.TsIndexedAccessType (Range span ∷ Flag readonly ∷ obj_type ∷ index_type ∷ [])

-- `{ readonly [type_param as name_type]optional: type_ann }`.
abbrev pub TsMappedType-span : Tree → SourceRange
TsMappedType-span t = range_of (part 0 t)

abbrev pub TsMappedType-readonly : Tree → Tree
TsMappedType-readonly t = part 1 t

abbrev pub TsMappedType-type_param : Tree → Tree
TsMappedType-type_param t = part 2 t

abbrev pub TsMappedType-name_type : Tree → Tree
TsMappedType-name_type t = part 3 t

abbrev pub TsMappedType-optional : Tree → Tree
TsMappedType-optional t = part 4 t

abbrev pub TsMappedType-type_ann : Tree → Tree
TsMappedType-type_ann t = part 5 t

pub record ReadsTsMappedType (form : TsMappedType Part) (t : Tree) : Type 0 where
  pub span : form.span ≡ TsMappedType-span t
  pub readonly : seen form.readonly ≡ TsMappedType-readonly t
  pub type_param : seen form.type_param ≡ TsMappedType-type_param t
  pub name_type : seen form.name_type ≡ TsMappedType-name_type t
  pub optional : seen form.optional ≡ TsMappedType-optional t
  pub type_ann : seen form.type_ann ≡ TsMappedType-type_ann t

abbrev pub ts_mapped_type : SourceRange → Tree → Tree → Tree → Tree → Tree → Tree
ts_mapped_type span readonly type_param name_type optional type_ann =
    node kinds.TsMappedType (Range span ∷ readonly ∷ type_param ∷ name_type ∷ optional ∷ type_ann ∷ [])

-- `asserts param_name is type_ann`.
abbrev pub TsTypePredicate-span : Tree → SourceRange
TsTypePredicate-span t = range_of (part 0 t)

abbrev pub TsTypePredicate-asserts : Tree → Bool
TsTypePredicate-asserts t = flag_of (part 1 t)

abbrev pub TsTypePredicate-param_name : Tree → Tree
TsTypePredicate-param_name t = part 2 t

abbrev pub TsTypePredicate-type_ann : Tree → Tree
TsTypePredicate-type_ann t = part 3 t

pub record ReadsTsTypePredicate (form : TsTypePredicate Part) (t : Tree) : Type 0 where
  pub span : form.span ≡ TsTypePredicate-span t
  pub asserts : form.asserts ≡ TsTypePredicate-asserts t
  pub param_name : seen form.param_name ≡ TsTypePredicate-param_name t
  pub type_ann : seen form.type_ann ≡ TsTypePredicate-type_ann t

abbrev pub ts_type_predicate : SourceRange → Bool → Tree → Tree → Tree
ts_type_predicate span asserts param_name type_ann =
    node kinds.TsTypePredicate (Range span ∷ Flag asserts ∷ param_name ∷ type_ann ∷ [])
