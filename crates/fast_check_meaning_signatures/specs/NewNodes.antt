-- New nodes that stand for what is taken out of a signature. No text stands for them: their ranges and scope numbers
-- are 0.
use Rattle.std.specs.Prelude.{ℕ, Bool, true, false, ◌&&◌, List, [], ◌∷◌, ◌++◌, codes, if◌then◌else◌}
use Rattle.std.specs.Fmt.{decimal}
use Rattle.fast_check_tree_syntax.specs.declared.kind.Kind.TheVariants.{TsTypeRef, TsArrayType, ExprStmt, IdentName}
use Rattle.fast_check_tree_syntax.specs.declared.kind.Word.TheVariants.{TsVoidKeyword, TsNeverKeyword, TsUndefinedKeyword}
use Rattle.fast_check_tree_syntax.specs.declared.kind.Word.TheVariants.{TsUnknownKeyword}
use Rattle.fast_check_tree_syntax.specs.declared.source.SourceRange.{SourceRange}
use Rattle.fast_check_tree_syntax.specs.declared.source.SyntaxContext.{SyntaxContext}
use Rattle.fast_check_tree_syntax.specs.declared.tree.Tree.{Tree, Absent, Range, Text}
use Rattle.fast_check_tree_syntax.specs.Shape.{◌is◌, kind_of, parts, is_absent, none_range, node, list}
use Rattle.fast_check_tree_forms_expressions.specs.Assertions.{ts_as_expr}
use Rattle.fast_check_tree_forms_expressions.specs.Expressions.{array_lit, object_lit, paren_expr}
use Rattle.fast_check_tree_forms_expressions.specs.Patterns.{pat_expr, rest_pat}
use Rattle.fast_check_tree_forms_classes.specs.Fields.{private_prop}
use Rattle.fast_check_tree_forms_classes.specs.Functions.{param}
use Rattle.fast_check_tree_forms_programs.specs.Names.{ident, binding_ident, private_name}
use Rattle.fast_check_tree_forms_statements.specs.Statements.{block_stmt, return_stmt}
use Rattle.fast_check_tree_forms_types.specs.Types.{ts_type_ref, ts_union_type, TsTypeRef-type_name, TsTypeRef-type_params}
use Rattle.fast_check_tree_forms_types.specs.TypeParams.{ts_type_param_instantiation, ts_type_ann, TsTypeAnn-span}
use Rattle.fast_check_tree_forms_types.specs.TypeParams.{TsTypeAnn-type_ann, TsTypeParamInstantiation-params}
use Rattle.fast_check_tree_helpers.specs.Builders.{ts_keyword_type, type_ann, any_type_ann, new_ident, never_value}
use Rattle.fast_check_tree_helpers.specs.Builders.{is_void_type}
use Rattle.fast_check_tree_helpers.specs.GlobalCalls.{is_global}

-- `elem_type[]`, `expr;` and a name, as nodes of their fields
abbrev pub ts_array_type : SourceRange → Tree → Tree
ts_array_type span elem_type = node TsArrayType (Range span ∷ elem_type ∷ [])

abbrev pub expr_stmt : SourceRange → Tree → Tree
expr_stmt span expr = node ExprStmt (Range span ∷ expr ∷ [])

abbrev pub ident_name : SourceRange → List ℕ → Tree
ident_name span sym = node IdentName (Range span ∷ Text sym ∷ [])

abbrev pub no_scope : SyntaxContext
no_scope = record { 0 = 0 }

-- `[] as never`
abbrev pub never_array : Tree
never_array = ts_as_expr none_range (array_lit none_range (list [])) (ts_keyword_type TsNeverKeyword)

-- `({} as never)`
abbrev pub never_in_parens : Tree
never_in_parens = paren_expr none_range never_value

-- `([] as never[])`
abbrev pub never_array_in_parens : Tree
never_array_in_parens = paren_expr none_range (ts_as_expr none_range (array_lit none_range (list []))
    (ts_array_type none_range (ts_keyword_type TsNeverKeyword)))

-- `{}`, where a pattern stands
abbrev pub empty_object_pat : Tree
empty_object_pat = pat_expr (object_lit none_range (list []))

-- `{ stmts }`
abbrev pub new_block : List Tree → Tree
new_block stmts = block_stmt none_range no_scope (list stmts)

-- whether a return type, as `: type`, is there and is not `void`
abbrev pub returns_value : Tree → Bool
returns_value type = if is_absent type then false else (if is_void_type (TsTypeAnn-type_ann type) then false else true)

-- the body of a function of this return type: `{ return {} as never; }`, or `{}` where nothing is returned
abbrev pub function_body : Tree → Tree
function_body type = if returns_value type then new_block (return_stmt none_range never_value ∷ []) else new_block []

-- the body of an arrow of this return type: `({} as never)`, or `{}` where nothing is returned
abbrev pub arrow_body : Tree → Tree
arrow_body type = if returns_value type then never_in_parens else new_block []

-- `Promise<type>`
abbrev pub promise_of : Tree → Tree
promise_of type = ts_type_ref none_range (new_ident (codes "Promise"))
    (ts_type_param_instantiation none_range (list (type ∷ [])))

abbrev pub is_one : List Tree → Bool
is_one (t ∷ []) = true
is_one _ = false

-- whether a type is `Promise` of one type, the global one
abbrev pub is_promise : SyntaxContext → Tree → Bool
is_promise unresolved type =
    (kind_of type is TsTypeRef) && (is_global (codes "Promise") unresolved (TsTypeRef-type_name type) &&
    is_one (parts (TsTypeParamInstantiation-params (TsTypeRef-type_params type))))

-- the return type of an arrow that gives a value of this type: in a promise where the arrow is async, unless it is one
abbrev pub promised : SyntaxContext → Bool → Tree → Tree
promised unresolved is_async type =
    if is_async then (if is_promise unresolved type then type else promise_of type) else type

-- the return type of a function that returns nothing
abbrev pub void_or_promise_void : Bool → Tree
void_or_promise_void is_async = if is_async then promise_of
    (ts_keyword_type TsVoidKeyword) else ts_keyword_type TsVoidKeyword

-- `: type | undefined`, from `: type`
abbrev pub or_undefined : Tree → Tree
or_undefined type =
    ts_type_ann (TsTypeAnn-span type)
    (ts_union_type none_range (list (TsTypeAnn-type_ann type ∷ ts_keyword_type TsUndefinedKeyword ∷ [])))

-- `paramN`, for the parameter at place N
abbrev pub param_ident : ℕ → Bool → Tree
param_ident place optional = ident none_range no_scope (codes "param" ++ decimal place) optional

-- `paramN?: any`, or `...paramN: any` for a rest
abbrev pub any_param : ℕ → Bool → Tree
any_param place is_rest =
    param none_range (list [])
    (if is_rest then rest_pat none_range none_range (binding_ident (param_ident place false) Absent) any_type_ann
    else binding_ident (param_ident place true) any_type_ann)

-- `#private!: unknown`
abbrev pub hash_private : Tree
hash_private = private_prop none_range no_scope (private_name none_range (codes "private")) Absent
    (type_ann (ts_keyword_type TsUnknownKeyword)) false (list [])
    Absent false false false true
