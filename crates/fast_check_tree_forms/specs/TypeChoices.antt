-- Written by forms/write.py from forms/forms.txt.
-- Which type a node is, and which form stands in a part of one.
-- Each choice goes by the kind of the node: `Other` stands for a kind of none of its forms.
use Rattle.fast_check_tree_syntax.specs.declared.kind.Kind.{Kind}
use Rattle.fast_check_tree_syntax.specs.declared.kind.Kind.TheVariants as kinds
use Rattle.fast_check_tree_forms.specs.declared.type_choices.TsFnOrConstructorType.{TsFnOrConstructorType}
use Rattle.fast_check_tree_forms.specs.declared.type_choices.TsUnionOrIntersectionType.{TsUnionOrIntersectionType}
use Rattle.fast_check_tree_forms.specs.declared.type_choices.TsType.{TsType}
use Rattle.fast_check_tree_forms.specs.declared.type_choices.TsEntityName.{TsEntityName}
use Rattle.fast_check_tree_forms.specs.declared.type_choices.TsTypeQueryExpr.{TsTypeQueryExpr}
use Rattle.fast_check_tree_forms.specs.declared.type_choices.TsLit.{TsLit}
use Rattle.fast_check_tree_forms.specs.declared.type_choices.TsThisTypeOrIdent.{TsThisTypeOrIdent}
use Rattle.fast_check_tree_forms.specs.declared.type_choices.TsTypeElement.{TsTypeElement}

-- A type of functions or constructors.
abbrev pub ts_fn_or_constructor_type_of : Kind → TsFnOrConstructorType
ts_fn_or_constructor_type_of kinds.TsFnType = TsFnOrConstructorType.TsFnType
ts_fn_or_constructor_type_of kinds.TsConstructorType = TsFnOrConstructorType.TsConstructorType
ts_fn_or_constructor_type_of _ = TsFnOrConstructorType.Other

-- the first where it is one of these, else the second
abbrev pub if_ts_fn_or_constructor_type : {A : Type 0} → TsFnOrConstructorType → A → A → A
if_ts_fn_or_constructor_type TsFnOrConstructorType.Other one other = other
if_ts_fn_or_constructor_type _ one other = one

-- A union or an intersection.
abbrev pub ts_union_or_intersection_type_of : Kind → TsUnionOrIntersectionType
ts_union_or_intersection_type_of kinds.TsUnionType = TsUnionOrIntersectionType.TsUnionType
ts_union_or_intersection_type_of kinds.TsIntersectionType = TsUnionOrIntersectionType.TsIntersectionType
ts_union_or_intersection_type_of _ = TsUnionOrIntersectionType.Other

-- the first where it is one of these, else the second
abbrev pub if_ts_union_or_intersection_type : {A : Type 0} → TsUnionOrIntersectionType → A → A → A
if_ts_union_or_intersection_type TsUnionOrIntersectionType.Other one other = other
if_ts_union_or_intersection_type _ one other = one

-- A type.
abbrev pub ts_type_of : Kind → TsType
ts_type_of kinds.TsKeywordType = TsType.TsKeywordType
ts_type_of kinds.TsThisType = TsType.TsThisType
ts_type_of kinds.TsTypeRef = TsType.TsTypeRef
ts_type_of kinds.TsTypeQuery = TsType.TsTypeQuery
ts_type_of kinds.TsTypeLit = TsType.TsTypeLit
ts_type_of kinds.TsArrayType = TsType.TsArrayType
ts_type_of kinds.TsTupleType = TsType.TsTupleType
ts_type_of kinds.TsOptionalType = TsType.TsOptionalType
ts_type_of kinds.TsRestType = TsType.TsRestType
ts_type_of kinds.TsConditionalType = TsType.TsConditionalType
ts_type_of kinds.TsInferType = TsType.TsInferType
ts_type_of kinds.TsParenthesizedType = TsType.TsParenthesizedType
ts_type_of kinds.TsTypeOperator = TsType.TsTypeOperator
ts_type_of kinds.TsIndexedAccessType = TsType.TsIndexedAccessType
ts_type_of kinds.TsMappedType = TsType.TsMappedType
ts_type_of kinds.TsLitType = TsType.TsLitType
ts_type_of kinds.TsTypePredicate = TsType.TsTypePredicate
ts_type_of kinds.TsImportType = TsType.TsImportType
ts_type_of kind =
    if_ts_fn_or_constructor_type (ts_fn_or_constructor_type_of kind) TsType.TsFnOrConstructorType
    (if_ts_union_or_intersection_type (ts_union_or_intersection_type_of kind) TsType.TsUnionOrIntersectionType
    TsType.Other)

-- The name of a type, with dots or without.
abbrev pub ts_entity_name_of : Kind → TsEntityName
ts_entity_name_of kinds.TsQualifiedName = TsEntityName.TsQualifiedName
ts_entity_name_of kinds.Ident = TsEntityName.Ident
ts_entity_name_of _ = TsEntityName.Other

-- the first where it is one of these, else the second
abbrev pub if_ts_entity_name : {A : Type 0} → TsEntityName → A → A → A
if_ts_entity_name TsEntityName.Other one other = other
if_ts_entity_name _ one other = one

-- What a type query asks of.
abbrev pub ts_type_query_expr_of : Kind → TsTypeQueryExpr
ts_type_query_expr_of kinds.TsImportType = TsTypeQueryExpr.Import
ts_type_query_expr_of kind =
    if_ts_entity_name (ts_entity_name_of kind) TsTypeQueryExpr.TsEntityName TsTypeQueryExpr.Other

-- The literal of a literal type.
abbrev pub ts_lit_of : Kind → TsLit
ts_lit_of kinds.Number = TsLit.Number
ts_lit_of kinds.Str = TsLit.Str
ts_lit_of kinds.Bool = TsLit.Bool
ts_lit_of kinds.BigInt = TsLit.BigInt
ts_lit_of kinds.TsTplLitType = TsLit.Tpl
ts_lit_of _ = TsLit.Other

-- What a predicate speaks of.
abbrev pub ts_this_type_or_ident_of : Kind → TsThisTypeOrIdent
ts_this_type_or_ident_of kinds.TsThisType = TsThisTypeOrIdent.TsThisType
ts_this_type_or_ident_of kinds.Ident = TsThisTypeOrIdent.Ident
ts_this_type_or_ident_of _ = TsThisTypeOrIdent.Other

-- A member of an interface or a type literal.
abbrev pub ts_type_element_of : Kind → TsTypeElement
ts_type_element_of kinds.TsCallSignatureDecl = TsTypeElement.TsCallSignatureDecl
ts_type_element_of kinds.TsConstructSignatureDecl = TsTypeElement.TsConstructSignatureDecl
ts_type_element_of kinds.TsPropertySignature = TsTypeElement.TsPropertySignature
ts_type_element_of kinds.TsGetterSignature = TsTypeElement.TsGetterSignature
ts_type_element_of kinds.TsSetterSignature = TsTypeElement.TsSetterSignature
ts_type_element_of kinds.TsMethodSignature = TsTypeElement.TsMethodSignature
ts_type_element_of kinds.TsIndexSignature = TsTypeElement.TsIndexSignature
ts_type_element_of _ = TsTypeElement.Other
