-- Written by forms/write.py from forms/forms.txt.
-- The places of the parts that a definition by forms looks into, named by the fields that stand there.
use Rattle.std.specs.Prelude.{refl}
use Rattle.fast_check_tree_syntax.specs.Shape.{text_of, context_of}
use Rattle.fast_check_tree_helpers.specs.PlaceOf.{PlaceOf, PlaceAs}
use Rattle.fast_check_tree_forms_programs.specs.Names.{Ident-ctxt, Ident-sym, IdentName-sym}
use Rattle.fast_check_tree_forms_statements.specs.Loops.{WhileStmt-body, DoWhileStmt-body, ForStmt-body, ForInStmt-body}
use Rattle.fast_check_tree_forms_statements.specs.Loops.{ForOfStmt-body}
use Rattle.fast_check_tree_forms_statements.specs.Statements.{BlockStmt-stmts, WithStmt-body, LabeledStmt-body}
use Rattle.fast_check_tree_forms_statements.specs.Statements.{IfStmt-cons, IfStmt-alt, SwitchStmt-cases}
use Rattle.fast_check_tree_forms_statements.specs.Statements.{SwitchCase-cons, TryStmt-block, TryStmt-handler}
use Rattle.fast_check_tree_forms_statements.specs.Statements.{TryStmt-finalizer, CatchClause-body}
use Rattle.fast_check_tree_forms_expressions.specs.Assertions.{TsSatisfiesExpr-expr, TsAsExpr-type_ann}
use Rattle.fast_check_tree_forms_expressions.specs.Assertions.{TsTypeAssertion-type_ann}
use Rattle.fast_check_tree_forms_expressions.specs.Calls.{MemberExpr-obj, MemberExpr-prop, CallExpr-callee}
use Rattle.fast_check_tree_forms_expressions.specs.Calls.{CallExpr-args}
use Rattle.fast_check_tree_forms_expressions.specs.Expressions.{ParenExpr-expr, ExprOrSpread-spread, ExprOrSpread-expr}
use Rattle.fast_check_tree_forms_expressions.specs.Templates.{Tpl-exprs}
use Rattle.fast_check_tree_forms_types.specs.TypeOperators.{TsTypeOperator-type_ann}
use Rattle.fast_check_tree_forms_types.specs.TypeParams.{TsTypeParamInstantiation-params}
use Rattle.fast_check_tree_forms_types.specs.Types.{TsTypeRef-type_params, TsTupleType-elem_types, TsTupleElement-ty}
use Rattle.fast_check_tree_forms_types.specs.Types.{TsArrayType-elem_type, TsOptionalType-type_ann, TsRestType-type_ann}
use Rattle.fast_check_tree_forms_types.specs.Types.{TsUnionType-types, TsIntersectionType-types}
use Rattle.fast_check_tree_forms_types.specs.Types.{TsParenthesizedType-type_ann}

abbrev pub at-ParenExpr-expr : PlaceOf ParenExpr-expr
at-ParenExpr-expr = record { place = 1; reads = λ t. refl }

abbrev pub at-TsSatisfiesExpr-expr : PlaceOf TsSatisfiesExpr-expr
at-TsSatisfiesExpr-expr = record { place = 1; reads = λ t. refl }

abbrev pub at-TsAsExpr-type_ann : PlaceOf TsAsExpr-type_ann
at-TsAsExpr-type_ann = record { place = 2; reads = λ t. refl }

abbrev pub at-TsTypeAssertion-type_ann : PlaceOf TsTypeAssertion-type_ann
at-TsTypeAssertion-type_ann = record { place = 2; reads = λ t. refl }

abbrev pub at-MemberExpr-obj : PlaceOf MemberExpr-obj
at-MemberExpr-obj = record { place = 1; reads = λ t. refl }

abbrev pub at-MemberExpr-prop : PlaceOf MemberExpr-prop
at-MemberExpr-prop = record { place = 2; reads = λ t. refl }

abbrev pub at-CallExpr-callee : PlaceOf CallExpr-callee
at-CallExpr-callee = record { place = 2; reads = λ t. refl }

abbrev pub at-CallExpr-args : PlaceOf CallExpr-args
at-CallExpr-args = record { place = 3; reads = λ t. refl }

abbrev pub at-ExprOrSpread-spread : PlaceOf ExprOrSpread-spread
at-ExprOrSpread-spread = record { place = 0; reads = λ t. refl }

abbrev pub at-ExprOrSpread-expr : PlaceOf ExprOrSpread-expr
at-ExprOrSpread-expr = record { place = 1; reads = λ t. refl }

abbrev pub at-Tpl-exprs : PlaceOf Tpl-exprs
at-Tpl-exprs = record { place = 1; reads = λ t. refl }

abbrev pub at-Ident-ctxt : PlaceAs context_of Ident-ctxt
at-Ident-ctxt = record { place = 1; reads = λ t. refl }

abbrev pub at-Ident-sym : PlaceAs text_of Ident-sym
at-Ident-sym = record { place = 2; reads = λ t. refl }

abbrev pub at-IdentName-sym : PlaceAs text_of IdentName-sym
at-IdentName-sym = record { place = 1; reads = λ t. refl }

abbrev pub at-TsTypeRef-type_params : PlaceOf TsTypeRef-type_params
at-TsTypeRef-type_params = record { place = 2; reads = λ t. refl }

abbrev pub at-TsTypeParamInstantiation-params : PlaceOf TsTypeParamInstantiation-params
at-TsTypeParamInstantiation-params = record { place = 1; reads = λ t. refl }

abbrev pub at-TsTupleType-elem_types : PlaceOf TsTupleType-elem_types
at-TsTupleType-elem_types = record { place = 1; reads = λ t. refl }

abbrev pub at-TsTupleElement-ty : PlaceOf TsTupleElement-ty
at-TsTupleElement-ty = record { place = 2; reads = λ t. refl }

abbrev pub at-TsArrayType-elem_type : PlaceOf TsArrayType-elem_type
at-TsArrayType-elem_type = record { place = 1; reads = λ t. refl }

abbrev pub at-TsOptionalType-type_ann : PlaceOf TsOptionalType-type_ann
at-TsOptionalType-type_ann = record { place = 1; reads = λ t. refl }

abbrev pub at-TsRestType-type_ann : PlaceOf TsRestType-type_ann
at-TsRestType-type_ann = record { place = 1; reads = λ t. refl }

abbrev pub at-TsUnionType-types : PlaceOf TsUnionType-types
at-TsUnionType-types = record { place = 1; reads = λ t. refl }

abbrev pub at-TsIntersectionType-types : PlaceOf TsIntersectionType-types
at-TsIntersectionType-types = record { place = 1; reads = λ t. refl }

abbrev pub at-TsParenthesizedType-type_ann : PlaceOf TsParenthesizedType-type_ann
at-TsParenthesizedType-type_ann = record { place = 1; reads = λ t. refl }

abbrev pub at-TsTypeOperator-type_ann : PlaceOf TsTypeOperator-type_ann
at-TsTypeOperator-type_ann = record { place = 2; reads = λ t. refl }

abbrev pub at-BlockStmt-stmts : PlaceOf BlockStmt-stmts
at-BlockStmt-stmts = record { place = 2; reads = λ t. refl }

abbrev pub at-WithStmt-body : PlaceOf WithStmt-body
at-WithStmt-body = record { place = 2; reads = λ t. refl }

abbrev pub at-LabeledStmt-body : PlaceOf LabeledStmt-body
at-LabeledStmt-body = record { place = 2; reads = λ t. refl }

abbrev pub at-IfStmt-cons : PlaceOf IfStmt-cons
at-IfStmt-cons = record { place = 2; reads = λ t. refl }

abbrev pub at-IfStmt-alt : PlaceOf IfStmt-alt
at-IfStmt-alt = record { place = 3; reads = λ t. refl }

abbrev pub at-SwitchStmt-cases : PlaceOf SwitchStmt-cases
at-SwitchStmt-cases = record { place = 2; reads = λ t. refl }

abbrev pub at-SwitchCase-cons : PlaceOf SwitchCase-cons
at-SwitchCase-cons = record { place = 2; reads = λ t. refl }

abbrev pub at-TryStmt-block : PlaceOf TryStmt-block
at-TryStmt-block = record { place = 1; reads = λ t. refl }

abbrev pub at-TryStmt-handler : PlaceOf TryStmt-handler
at-TryStmt-handler = record { place = 2; reads = λ t. refl }

abbrev pub at-TryStmt-finalizer : PlaceOf TryStmt-finalizer
at-TryStmt-finalizer = record { place = 3; reads = λ t. refl }

abbrev pub at-CatchClause-body : PlaceOf CatchClause-body
at-CatchClause-body = record { place = 2; reads = λ t. refl }

abbrev pub at-WhileStmt-body : PlaceOf WhileStmt-body
at-WhileStmt-body = record { place = 2; reads = λ t. refl }

abbrev pub at-DoWhileStmt-body : PlaceOf DoWhileStmt-body
at-DoWhileStmt-body = record { place = 2; reads = λ t. refl }

abbrev pub at-ForStmt-body : PlaceOf ForStmt-body
at-ForStmt-body = record { place = 4; reads = λ t. refl }

abbrev pub at-ForInStmt-body : PlaceOf ForInStmt-body
at-ForInStmt-body = record { place = 3; reads = λ t. refl }

abbrev pub at-ForOfStmt-body : PlaceOf ForOfStmt-body
at-ForOfStmt-body = record { place = 4; reads = λ t. refl }
