-- Written by forms/write.py from forms/forms.txt.
-- Types.
-- Each form has its fields by their names, what it holds once it reads a node, and the node of its fields.
use Rattle.std.specs.Prelude.{◌≡◌, [], ◌∷◌}
use Rattle.fast_check_tree_syntax.specs.declared.kind.Kind.TheVariants as kinds
use Rattle.fast_check_tree_syntax.specs.declared.part.Part.{Part}
use Rattle.fast_check_tree_syntax.specs.declared.source.SourceRange.{SourceRange}
use Rattle.fast_check_tree_syntax.specs.declared.tree.Tree.{Tree, Range}
use Rattle.fast_check_tree_syntax.specs.Part.{seen}
use Rattle.fast_check_tree_syntax.specs.Shape.{node, part, range_of}
use Rattle.fast_check_tree_forms_types.specs.declared.types.TsKeywordType.{TsKeywordType}
use Rattle.fast_check_tree_forms_types.specs.declared.types.TsThisType.{TsThisType}
use Rattle.fast_check_tree_forms_types.specs.declared.types.TsTypeRef.{TsTypeRef}
use Rattle.fast_check_tree_forms_types.specs.declared.types.TsQualifiedName.{TsQualifiedName}
use Rattle.fast_check_tree_forms_types.specs.declared.types.TsTypeQuery.{TsTypeQuery}
use Rattle.fast_check_tree_forms_types.specs.declared.types.TsImportType.{TsImportType}
use Rattle.fast_check_tree_forms_types.specs.declared.types.TsTypeLit.{TsTypeLit}
use Rattle.fast_check_tree_forms_types.specs.declared.types.TsArrayType.{TsArrayType}
use Rattle.fast_check_tree_forms_types.specs.declared.types.TsTupleType.{TsTupleType}
use Rattle.fast_check_tree_forms_types.specs.declared.types.TsTupleElement.{TsTupleElement}
use Rattle.fast_check_tree_forms_types.specs.declared.types.TsOptionalType.{TsOptionalType}
use Rattle.fast_check_tree_forms_types.specs.declared.types.TsRestType.{TsRestType}
use Rattle.fast_check_tree_forms_types.specs.declared.types.TsParenthesizedType.{TsParenthesizedType}
use Rattle.fast_check_tree_forms_types.specs.declared.types.TsUnionType.{TsUnionType}
use Rattle.fast_check_tree_forms_types.specs.declared.types.TsIntersectionType.{TsIntersectionType}
use Rattle.fast_check_tree_forms_types.specs.declared.types.TsLitType.{TsLitType}
use Rattle.fast_check_tree_forms_types.specs.declared.types.TsTplLitType.{TsTplLitType}

-- A type that is a keyword, as `string`.
abbrev pub TsKeywordType-span : Tree → SourceRange
TsKeywordType-span t = range_of (part 0 t)

abbrev pub TsKeywordType-kind : Tree → Tree
TsKeywordType-kind t = part 1 t

pub record ReadsTsKeywordType (form : TsKeywordType Part) (t : Tree) : Type 0 where
  pub span : form.span ≡ TsKeywordType-span t
  pub kind : seen form.kind ≡ TsKeywordType-kind t

abbrev pub ts_keyword_type : SourceRange → Tree → Tree
ts_keyword_type span kind = node kinds.TsKeywordType (Range span ∷ kind ∷ [])

-- `this` as a type.
abbrev pub TsThisType-span : Tree → SourceRange
TsThisType-span t = range_of (part 0 t)

pub record ReadsTsThisType (form : TsThisType) (t : Tree) : Type 0 where
  pub span : form.span ≡ TsThisType-span t

abbrev pub ts_this_type : SourceRange → Tree
ts_this_type span = node kinds.TsThisType (Range span ∷ [])

-- `type_name<type_params>`.
abbrev pub TsTypeRef-span : Tree → SourceRange
TsTypeRef-span t = range_of (part 0 t)

abbrev pub TsTypeRef-type_name : Tree → Tree
TsTypeRef-type_name t = part 1 t

abbrev pub TsTypeRef-type_params : Tree → Tree
TsTypeRef-type_params t = part 2 t

pub record ReadsTsTypeRef (form : TsTypeRef Part) (t : Tree) : Type 0 where
  pub span : form.span ≡ TsTypeRef-span t
  pub type_name : seen form.type_name ≡ TsTypeRef-type_name t
  pub type_params : seen form.type_params ≡ TsTypeRef-type_params t

abbrev pub ts_type_ref : SourceRange → Tree → Tree → Tree
ts_type_ref span type_name type_params = node kinds.TsTypeRef (Range span ∷ type_name ∷ type_params ∷ [])

-- `left.right` as the name of a type.
abbrev pub TsQualifiedName-span : Tree → SourceRange
TsQualifiedName-span t = range_of (part 0 t)

abbrev pub TsQualifiedName-left : Tree → Tree
TsQualifiedName-left t = part 1 t

abbrev pub TsQualifiedName-right : Tree → Tree
TsQualifiedName-right t = part 2 t

pub record ReadsTsQualifiedName (form : TsQualifiedName Part) (t : Tree) : Type 0 where
  pub span : form.span ≡ TsQualifiedName-span t
  pub left : seen form.left ≡ TsQualifiedName-left t
  pub right : seen form.right ≡ TsQualifiedName-right t

abbrev pub ts_qualified_name : SourceRange → Tree → Tree → Tree
ts_qualified_name span left right = node kinds.TsQualifiedName (Range span ∷ left ∷ right ∷ [])

-- `typeof expr_name<type_args>`.
abbrev pub TsTypeQuery-span : Tree → SourceRange
TsTypeQuery-span t = range_of (part 0 t)

abbrev pub TsTypeQuery-expr_name : Tree → Tree
TsTypeQuery-expr_name t = part 1 t

abbrev pub TsTypeQuery-type_args : Tree → Tree
TsTypeQuery-type_args t = part 2 t

pub record ReadsTsTypeQuery (form : TsTypeQuery Part) (t : Tree) : Type 0 where
  pub span : form.span ≡ TsTypeQuery-span t
  pub expr_name : seen form.expr_name ≡ TsTypeQuery-expr_name t
  pub type_args : seen form.type_args ≡ TsTypeQuery-type_args t

abbrev pub ts_type_query : SourceRange → Tree → Tree → Tree
ts_type_query span expr_name type_args = node kinds.TsTypeQuery (Range span ∷ expr_name ∷ type_args ∷ [])

-- `import(arg).qualifier<type_args>`.
abbrev pub TsImportType-span : Tree → SourceRange
TsImportType-span t = range_of (part 0 t)

abbrev pub TsImportType-arg : Tree → Tree
TsImportType-arg t = part 1 t

abbrev pub TsImportType-qualifier : Tree → Tree
TsImportType-qualifier t = part 2 t

abbrev pub TsImportType-type_args : Tree → Tree
TsImportType-type_args t = part 3 t

pub record ReadsTsImportType (form : TsImportType Part) (t : Tree) : Type 0 where
  pub span : form.span ≡ TsImportType-span t
  pub arg : seen form.arg ≡ TsImportType-arg t
  pub qualifier : seen form.qualifier ≡ TsImportType-qualifier t
  pub type_args : seen form.type_args ≡ TsImportType-type_args t

abbrev pub ts_import_type : SourceRange → Tree → Tree → Tree → Tree
ts_import_type span arg qualifier type_args = node kinds.TsImportType (Range span ∷ arg ∷ qualifier ∷ type_args ∷ [])

-- `{ members }`.
abbrev pub TsTypeLit-span : Tree → SourceRange
TsTypeLit-span t = range_of (part 0 t)

abbrev pub TsTypeLit-members : Tree → Tree
TsTypeLit-members t = part 1 t

pub record ReadsTsTypeLit (form : TsTypeLit Part) (t : Tree) : Type 0 where
  pub span : form.span ≡ TsTypeLit-span t
  pub members : seen form.members ≡ TsTypeLit-members t

abbrev pub ts_type_lit : SourceRange → Tree → Tree
ts_type_lit span members = node kinds.TsTypeLit (Range span ∷ members ∷ [])

-- `elem_type[]`.
abbrev pub TsArrayType-span : Tree → SourceRange
TsArrayType-span t = range_of (part 0 t)

abbrev pub TsArrayType-elem_type : Tree → Tree
TsArrayType-elem_type t = part 1 t

pub record ReadsTsArrayType (form : TsArrayType Part) (t : Tree) : Type 0 where
  pub span : form.span ≡ TsArrayType-span t
  pub elem_type : seen form.elem_type ≡ TsArrayType-elem_type t

abbrev pub ts_array_type : SourceRange → Tree → Tree
ts_array_type span elem_type = node kinds.TsArrayType (Range span ∷ elem_type ∷ [])

-- `[elem_types]`.
abbrev pub TsTupleType-span : Tree → SourceRange
TsTupleType-span t = range_of (part 0 t)

abbrev pub TsTupleType-elem_types : Tree → Tree
TsTupleType-elem_types t = part 1 t

pub record ReadsTsTupleType (form : TsTupleType Part) (t : Tree) : Type 0 where
  pub span : form.span ≡ TsTupleType-span t
  pub elem_types : seen form.elem_types ≡ TsTupleType-elem_types t

abbrev pub ts_tuple_type : SourceRange → Tree → Tree
ts_tuple_type span elem_types = node kinds.TsTupleType (Range span ∷ elem_types ∷ [])

-- In a tuple: `label: ty`, or `ty` alone.
abbrev pub TsTupleElement-span : Tree → SourceRange
TsTupleElement-span t = range_of (part 0 t)

abbrev pub TsTupleElement-label : Tree → Tree
TsTupleElement-label t = part 1 t

abbrev pub TsTupleElement-ty : Tree → Tree
TsTupleElement-ty t = part 2 t

pub record ReadsTsTupleElement (form : TsTupleElement Part) (t : Tree) : Type 0 where
  pub span : form.span ≡ TsTupleElement-span t
  pub label : seen form.label ≡ TsTupleElement-label t
  pub ty : seen form.ty ≡ TsTupleElement-ty t

abbrev pub ts_tuple_element : SourceRange → Tree → Tree → Tree
ts_tuple_element span label ty = node kinds.TsTupleElement (Range span ∷ label ∷ ty ∷ [])

-- In a tuple: `type_ann?`.
abbrev pub TsOptionalType-span : Tree → SourceRange
TsOptionalType-span t = range_of (part 0 t)

abbrev pub TsOptionalType-type_ann : Tree → Tree
TsOptionalType-type_ann t = part 1 t

pub record ReadsTsOptionalType (form : TsOptionalType Part) (t : Tree) : Type 0 where
  pub span : form.span ≡ TsOptionalType-span t
  pub type_ann : seen form.type_ann ≡ TsOptionalType-type_ann t

abbrev pub ts_optional_type : SourceRange → Tree → Tree
ts_optional_type span type_ann = node kinds.TsOptionalType (Range span ∷ type_ann ∷ [])

-- In a tuple: `...type_ann`.
abbrev pub TsRestType-span : Tree → SourceRange
TsRestType-span t = range_of (part 0 t)

abbrev pub TsRestType-type_ann : Tree → Tree
TsRestType-type_ann t = part 1 t

pub record ReadsTsRestType (form : TsRestType Part) (t : Tree) : Type 0 where
  pub span : form.span ≡ TsRestType-span t
  pub type_ann : seen form.type_ann ≡ TsRestType-type_ann t

abbrev pub ts_rest_type : SourceRange → Tree → Tree
ts_rest_type span type_ann = node kinds.TsRestType (Range span ∷ type_ann ∷ [])

-- `(type_ann)`.
abbrev pub TsParenthesizedType-span : Tree → SourceRange
TsParenthesizedType-span t = range_of (part 0 t)

abbrev pub TsParenthesizedType-type_ann : Tree → Tree
TsParenthesizedType-type_ann t = part 1 t

pub record ReadsTsParenthesizedType (form : TsParenthesizedType Part) (t : Tree) : Type 0 where
  pub span : form.span ≡ TsParenthesizedType-span t
  pub type_ann : seen form.type_ann ≡ TsParenthesizedType-type_ann t

abbrev pub ts_parenthesized_type : SourceRange → Tree → Tree
ts_parenthesized_type span type_ann = node kinds.TsParenthesizedType (Range span ∷ type_ann ∷ [])

-- Types with `|` between them: `types`.
abbrev pub TsUnionType-span : Tree → SourceRange
TsUnionType-span t = range_of (part 0 t)

abbrev pub TsUnionType-types : Tree → Tree
TsUnionType-types t = part 1 t

pub record ReadsTsUnionType (form : TsUnionType Part) (t : Tree) : Type 0 where
  pub span : form.span ≡ TsUnionType-span t
  pub types : seen form.types ≡ TsUnionType-types t

abbrev pub ts_union_type : SourceRange → Tree → Tree
ts_union_type span types = node kinds.TsUnionType (Range span ∷ types ∷ [])

-- Types with `&` between them: `types`.
abbrev pub TsIntersectionType-span : Tree → SourceRange
TsIntersectionType-span t = range_of (part 0 t)

abbrev pub TsIntersectionType-types : Tree → Tree
TsIntersectionType-types t = part 1 t

pub record ReadsTsIntersectionType (form : TsIntersectionType Part) (t : Tree) : Type 0 where
  pub span : form.span ≡ TsIntersectionType-span t
  pub types : seen form.types ≡ TsIntersectionType-types t

abbrev pub ts_intersection_type : SourceRange → Tree → Tree
ts_intersection_type span types = node kinds.TsIntersectionType (Range span ∷ types ∷ [])

-- A literal as a type.
abbrev pub TsLitType-span : Tree → SourceRange
TsLitType-span t = range_of (part 0 t)

abbrev pub TsLitType-lit : Tree → Tree
TsLitType-lit t = part 1 t

pub record ReadsTsLitType (form : TsLitType Part) (t : Tree) : Type 0 where
  pub span : form.span ≡ TsLitType-span t
  pub lit : seen form.lit ≡ TsLitType-lit t

abbrev pub ts_lit_type : SourceRange → Tree → Tree
ts_lit_type span lit = node kinds.TsLitType (Range span ∷ lit ∷ [])

-- A template as a type, its substitutions `types` between its texts `quasis`.
abbrev pub TsTplLitType-span : Tree → SourceRange
TsTplLitType-span t = range_of (part 0 t)

abbrev pub TsTplLitType-types : Tree → Tree
TsTplLitType-types t = part 1 t

abbrev pub TsTplLitType-quasis : Tree → Tree
TsTplLitType-quasis t = part 2 t

pub record ReadsTsTplLitType (form : TsTplLitType Part) (t : Tree) : Type 0 where
  pub span : form.span ≡ TsTplLitType-span t
  pub types : seen form.types ≡ TsTplLitType-types t
  pub quasis : seen form.quasis ≡ TsTplLitType-quasis t

abbrev pub ts_tpl_lit_type : SourceRange → Tree → Tree → Tree
ts_tpl_lit_type span types quasis = node kinds.TsTplLitType (Range span ∷ types ∷ quasis ∷ [])
