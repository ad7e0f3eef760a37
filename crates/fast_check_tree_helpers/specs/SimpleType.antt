-- Simple types: those that an assertion to them shows as they are written. A type that is computed from others, or has
-- parameters of its own, is none.
use Rattle.std.specs.Prelude.{ℕ, Bool, true, false, not, ◌||◌, List, Option, Some, None, unwrap_or}
use Rattle.std.specs.List.{list_all}
use Rattle.std.specs.Option.{option_map}
use Rattle.fast_check_tree_syntax.specs.declared.kind.Kind.{Kind}
use Rattle.fast_check_tree_syntax.specs.declared.kind.Kind.TheVariants as kinds
use Rattle.fast_check_tree_syntax.specs.declared.tree.Tree.{Tree}
use Rattle.fast_check_tree_syntax.specs.Shape.{◌is◌, kind_of, is_absent}
use Rattle.fast_check_tree_syntax.specs.Recursion.{by_form}
use Rattle.fast_check_tree_forms_types.specs.Types.{TsLitType-lit, TsTypeRef-type_params}
use Rattle.fast_check_tree_helpers.specs.Places.{at-TsTypeRef-type_params, at-TsTypeParamInstantiation-params}
use Rattle.fast_check_tree_helpers.specs.Places.{at-TsTupleType-elem_types, at-TsTupleElement-ty, at-TsArrayType-elem_type}
use Rattle.fast_check_tree_helpers.specs.Places.{at-TsOptionalType-type_ann, at-TsRestType-type_ann, at-TsUnionType-types}
use Rattle.fast_check_tree_helpers.specs.Places.{at-TsIntersectionType-types, at-TsParenthesizedType-type_ann}
use Rattle.fast_check_tree_helpers.specs.Places.{at-TsTypeOperator-type_ann}

-- the field with the type, or the list of types, that a type holds: a tuple, an array, an optional, rest, union,
-- intersection or parenthesised type, an operator on a type, and the arguments of a reference to a type
abbrev pub types_in : Kind → Option ℕ
types_in kinds.TsTypeParamInstantiation = Some at-TsTypeParamInstantiation-params.place
types_in kinds.TsTupleType = Some at-TsTupleType-elem_types.place
types_in kinds.TsTupleElement = Some at-TsTupleElement-ty.place
types_in kinds.TsArrayType = Some at-TsArrayType-elem_type.place
types_in kinds.TsOptionalType = Some at-TsOptionalType-type_ann.place
types_in kinds.TsRestType = Some at-TsRestType-type_ann.place
types_in kinds.TsUnionType = Some at-TsUnionType-types.place
types_in kinds.TsIntersectionType = Some at-TsIntersectionType-types.place
types_in kinds.TsParenthesizedType = Some at-TsParenthesizedType-type_ann.place
types_in kinds.TsTypeOperator = Some at-TsTypeOperator-type_ann.place
types_in _ = None

-- A keyword, `this`, a type literal, and a literal but a template are simple. So is a reference to a type, and what
-- holds types, where the types in it are; a list of types where each is. No other type is.
-- `inside` says it of the part at a place, `each` of all parts.
abbrev pub simple_by_kind : Kind → Tree → (ℕ → Bool) → List Bool → Bool
simple_by_kind kinds.TsKeywordType type inside each = true
simple_by_kind kinds.TsThisType type inside each = true
simple_by_kind kinds.TsTypeLit type inside each = true
simple_by_kind kinds.TsLitType type inside each = not (kind_of (TsLitType-lit type) is kinds.TsTplLitType)
simple_by_kind kinds.TsTypeRef type inside each = is_absent (TsTypeRef-type_params type) ||
    inside at-TsTypeRef-type_params.place
simple_by_kind kinds.List type inside each = list_all (λ simple. simple) each
simple_by_kind kind type inside each = unwrap_or (option_map inside (types_in kind)) false

abbrev pub simple_form : Tree → (ℕ → Bool) → List Bool → Bool
simple_form type = simple_by_kind (kind_of type) type

unfoldable pub is_simple_type : Tree → Bool
is_simple_type = by_form false simple_form
