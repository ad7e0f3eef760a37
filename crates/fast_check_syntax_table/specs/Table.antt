-- Written by forms/write.py from forms/forms.txt.
-- What each form writes, as the constants of the code have it: forms/syntax.txt, read aloud.
use Rattle.std.specs.Prelude.{List, []}
use Rattle.fast_check_tree_syntax.specs.declared.kind.Kind.{Kind}
use Rattle.fast_check_tree_syntax.specs.declared.kind.Kind.TheVariants as kinds
use Rattle.fast_check_syntax_table.specs.declared.piece.Slot.{Slot}
use Rattle.fast_check_syntax_table.specs.declared.piece.Slot.TheVariants as slots
use Rattle.fast_check_syntax_table.specs.declared.programs.TheConstants as programs
use Rattle.fast_check_syntax_table.specs.declared.statements.TheConstants as statements
use Rattle.fast_check_syntax_table.specs.declared.expressions.TheConstants as expressions
use Rattle.fast_check_syntax_table.specs.declared.classes.TheConstants as classes
use Rattle.fast_check_syntax_table.specs.declared.types.TheConstants as types
use Rattle.fast_check_syntax_table.specs.Rows.{Row, rows_of}

abbrev pub whole_table : Kind → List Row
whole_table kinds.Ident = rows_of programs.IDENT
whole_table kinds.IdentName = rows_of programs.IDENT_NAME
whole_table kinds.BindingIdent = rows_of programs.BINDING_IDENT
whole_table kinds.PrivateName = rows_of programs.PRIVATE_NAME
whole_table kinds.Str = rows_of programs.STR
whole_table kinds.Bool = rows_of programs.BOOL
whole_table kinds.Null = rows_of programs.NULL
whole_table kinds.Number = rows_of programs.NUMBER
whole_table kinds.BigInt = rows_of programs.BIG_INT
whole_table kinds.Regex = rows_of programs.REGEX
whole_table kinds.JSXText = rows_of programs.JSX_TEXT
whole_table kinds.Module = rows_of programs.MODULE
whole_table kinds.Script = rows_of programs.SCRIPT
whole_table kinds.ImportDecl = rows_of programs.IMPORT_DECL
whole_table kinds.ExportDecl = rows_of programs.EXPORT_DECL
whole_table kinds.NamedExport = rows_of programs.NAMED_EXPORT
whole_table kinds.ExportDefaultDecl = rows_of programs.EXPORT_DEFAULT_DECL
whole_table kinds.ExportDefaultExpr = rows_of programs.EXPORT_DEFAULT_EXPR
whole_table kinds.ExportAll = rows_of programs.EXPORT_ALL
whole_table kinds.TsImportEqualsDecl = rows_of programs.TS_IMPORT_EQUALS_DECL
whole_table kinds.TsExportAssignment = rows_of programs.TS_EXPORT_ASSIGNMENT
whole_table kinds.TsNamespaceExportDecl = rows_of programs.TS_NAMESPACE_EXPORT_DECL
whole_table kinds.ImportNamedSpecifier = rows_of programs.IMPORT_NAMED_SPECIFIER
whole_table kinds.ImportDefaultSpecifier = rows_of programs.IMPORT_DEFAULT_SPECIFIER
whole_table kinds.ImportStarAsSpecifier = rows_of programs.IMPORT_STAR_AS_SPECIFIER
whole_table kinds.ExportNamespaceSpecifier = rows_of programs.EXPORT_NAMESPACE_SPECIFIER
whole_table kinds.ExportDefaultSpecifier = rows_of programs.EXPORT_DEFAULT_SPECIFIER
whole_table kinds.ExportNamedSpecifier = rows_of programs.EXPORT_NAMED_SPECIFIER
whole_table kinds.TsExternalModuleRef = rows_of programs.TS_EXTERNAL_MODULE_REF
whole_table kinds.BlockStmt = rows_of statements.BLOCK_STMT
whole_table kinds.EmptyStmt = rows_of statements.EMPTY_STMT
whole_table kinds.DebuggerStmt = rows_of statements.DEBUGGER_STMT
whole_table kinds.WithStmt = rows_of statements.WITH_STMT
whole_table kinds.ReturnStmt = rows_of statements.RETURN_STMT
whole_table kinds.LabeledStmt = rows_of statements.LABELED_STMT
whole_table kinds.BreakStmt = rows_of statements.BREAK_STMT
whole_table kinds.ContinueStmt = rows_of statements.CONTINUE_STMT
whole_table kinds.IfStmt = rows_of statements.IF_STMT
whole_table kinds.SwitchStmt = rows_of statements.SWITCH_STMT
whole_table kinds.SwitchCase = rows_of statements.SWITCH_CASE
whole_table kinds.ThrowStmt = rows_of statements.THROW_STMT
whole_table kinds.TryStmt = rows_of statements.TRY_STMT
whole_table kinds.CatchClause = rows_of statements.CATCH_CLAUSE
whole_table kinds.WhileStmt = rows_of statements.WHILE_STMT
whole_table kinds.DoWhileStmt = rows_of statements.DO_WHILE_STMT
whole_table kinds.ForStmt = rows_of statements.FOR_STMT
whole_table kinds.ForInStmt = rows_of statements.FOR_IN_STMT
whole_table kinds.ForOfStmt = rows_of statements.FOR_OF_STMT
whole_table kinds.ExprStmt = rows_of statements.EXPR_STMT
whole_table kinds.ClassDecl = rows_of statements.CLASS_DECL
whole_table kinds.FnDecl = rows_of statements.FN_DECL
whole_table kinds.VarDecl = rows_of statements.VAR_DECL
whole_table kinds.VarDeclarator = rows_of statements.VAR_DECLARATOR
whole_table kinds.UsingDecl = rows_of statements.USING_DECL
whole_table kinds.TsInterfaceDecl = rows_of statements.TS_INTERFACE_DECL
whole_table kinds.TsExprWithTypeArgs = rows_of statements.TS_EXPR_WITH_TYPE_ARGS
whole_table kinds.TsInterfaceBody = rows_of statements.TS_INTERFACE_BODY
whole_table kinds.TsTypeAliasDecl = rows_of statements.TS_TYPE_ALIAS_DECL
whole_table kinds.TsEnumDecl = rows_of statements.TS_ENUM_DECL
whole_table kinds.TsEnumMember = rows_of statements.TS_ENUM_MEMBER
whole_table kinds.TsModuleDecl = rows_of statements.TS_MODULE_DECL
whole_table kinds.TsModuleBlock = rows_of statements.TS_MODULE_BLOCK
whole_table kinds.TsNamespaceDecl = rows_of statements.TS_NAMESPACE_DECL
whole_table kinds.ThisExpr = rows_of expressions.THIS_EXPR
whole_table kinds.ArrayLit = rows_of expressions.ARRAY_LIT
whole_table kinds.ObjectLit = rows_of expressions.OBJECT_LIT
whole_table kinds.FnExpr = rows_of expressions.FN_EXPR
whole_table kinds.UnaryExpr = rows_of expressions.UNARY_EXPR
whole_table kinds.UpdateExpr = rows_of expressions.UPDATE_EXPR
whole_table kinds.BinExpr = rows_of expressions.BIN_EXPR
whole_table kinds.AssignExpr = rows_of expressions.ASSIGN_EXPR
whole_table kinds.MemberExpr = rows_of expressions.MEMBER_EXPR
whole_table kinds.SuperPropExpr = rows_of expressions.SUPER_PROP_EXPR
whole_table kinds.CondExpr = rows_of expressions.COND_EXPR
whole_table kinds.CallExpr = rows_of expressions.CALL_EXPR
whole_table kinds.NewExpr = rows_of expressions.NEW_EXPR
whole_table kinds.SeqExpr = rows_of expressions.SEQ_EXPR
whole_table kinds.Tpl = rows_of expressions.TPL
whole_table kinds.TplElement = rows_of expressions.TPL_ELEMENT
whole_table kinds.TaggedTpl = rows_of expressions.TAGGED_TPL
whole_table kinds.ArrowExpr = rows_of expressions.ARROW_EXPR
whole_table kinds.ClassExpr = rows_of expressions.CLASS_EXPR
whole_table kinds.YieldExpr = rows_of expressions.YIELD_EXPR
whole_table kinds.MetaPropExpr = rows_of expressions.META_PROP_EXPR
whole_table kinds.AwaitExpr = rows_of expressions.AWAIT_EXPR
whole_table kinds.ParenExpr = rows_of expressions.PAREN_EXPR
whole_table kinds.JSXMember = rows_of expressions.JSX_MEMBER
whole_table kinds.JSXNamespacedName = rows_of expressions.JSX_NAMESPACED_NAME
whole_table kinds.JSXEmpty = rows_of expressions.JSX_EMPTY
whole_table kinds.JSXElement = rows_of expressions.JSX_ELEMENT
whole_table kinds.JSXFragment = rows_of expressions.JSX_FRAGMENT
whole_table kinds.TsTypeAssertion = rows_of expressions.TS_TYPE_ASSERTION
whole_table kinds.TsAsExpr = rows_of expressions.TS_AS_EXPR
whole_table kinds.TsSatisfiesExpr = rows_of expressions.TS_SATISFIES_EXPR
whole_table kinds.TsConstAssertion = rows_of expressions.TS_CONST_ASSERTION
whole_table kinds.TsNonNullExpr = rows_of expressions.TS_NON_NULL_EXPR
whole_table kinds.TsInstantiation = rows_of expressions.TS_INSTANTIATION
whole_table kinds.OptChainExpr = rows_of expressions.OPT_CHAIN_EXPR
whole_table kinds.Invalid = rows_of expressions.INVALID
whole_table kinds.OptCall = rows_of expressions.OPT_CALL
whole_table kinds.ExprOrSpread = rows_of expressions.EXPR_OR_SPREAD
whole_table kinds.SpreadElement = rows_of expressions.SPREAD_ELEMENT
whole_table kinds.KeyValueProp = rows_of expressions.KEY_VALUE_PROP
whole_table kinds.AssignProp = rows_of expressions.ASSIGN_PROP
whole_table kinds.GetterProp = rows_of expressions.GETTER_PROP
whole_table kinds.SetterProp = rows_of expressions.SETTER_PROP
whole_table kinds.MethodProp = rows_of expressions.METHOD_PROP
whole_table kinds.ComputedPropName = rows_of expressions.COMPUTED_PROP_NAME
whole_table kinds.Super = rows_of expressions.SUPER
whole_table kinds.Import = rows_of expressions.IMPORT
whole_table kinds.ArrayPat = rows_of expressions.ARRAY_PAT
whole_table kinds.RestPat = rows_of expressions.REST_PAT
whole_table kinds.ObjectPat = rows_of expressions.OBJECT_PAT
whole_table kinds.AssignPat = rows_of expressions.ASSIGN_PAT
whole_table kinds.KeyValuePatProp = rows_of expressions.KEY_VALUE_PAT_PROP
whole_table kinds.AssignPatProp = rows_of expressions.ASSIGN_PAT_PROP
whole_table kinds.TargetPat = rows_of expressions.TARGET_PAT
whole_table kinds.PatExpr = rows_of expressions.PAT_EXPR
whole_table kinds.Function = rows_of classes.FUNCTION
whole_table kinds.Param = rows_of classes.PARAM
whole_table kinds.Class = rows_of classes.CLASS
whole_table kinds.Decorator = rows_of classes.DECORATOR
whole_table kinds.Constructor = rows_of classes.CONSTRUCTOR
whole_table kinds.ClassMethod = rows_of classes.CLASS_METHOD
whole_table kinds.PrivateMethod = rows_of classes.PRIVATE_METHOD
whole_table kinds.ClassProp = rows_of classes.CLASS_PROP
whole_table kinds.PrivateProp = rows_of classes.PRIVATE_PROP
whole_table kinds.TsIndexSignature = rows_of classes.TS_INDEX_SIGNATURE
whole_table kinds.StaticBlock = rows_of classes.STATIC_BLOCK
whole_table kinds.AutoAccessor = rows_of classes.AUTO_ACCESSOR
whole_table kinds.TsParamProp = rows_of classes.TS_PARAM_PROP
whole_table kinds.TsKeywordType = rows_of types.TS_KEYWORD_TYPE
whole_table kinds.TsThisType = rows_of types.TS_THIS_TYPE
whole_table kinds.TsFnType = rows_of types.TS_FN_TYPE
whole_table kinds.TsConstructorType = rows_of types.TS_CONSTRUCTOR_TYPE
whole_table kinds.TsTypeRef = rows_of types.TS_TYPE_REF
whole_table kinds.TsTypeQuery = rows_of types.TS_TYPE_QUERY
whole_table kinds.TsTypeLit = rows_of types.TS_TYPE_LIT
whole_table kinds.TsArrayType = rows_of types.TS_ARRAY_TYPE
whole_table kinds.TsTupleType = rows_of types.TS_TUPLE_TYPE
whole_table kinds.TsTupleElement = rows_of types.TS_TUPLE_ELEMENT
whole_table kinds.TsOptionalType = rows_of types.TS_OPTIONAL_TYPE
whole_table kinds.TsRestType = rows_of types.TS_REST_TYPE
whole_table kinds.TsParenthesizedType = rows_of types.TS_PARENTHESIZED_TYPE
whole_table kinds.TsUnionType = rows_of types.TS_UNION_TYPE
whole_table kinds.TsIntersectionType = rows_of types.TS_INTERSECTION_TYPE
whole_table kinds.TsConditionalType = rows_of types.TS_CONDITIONAL_TYPE
whole_table kinds.TsInferType = rows_of types.TS_INFER_TYPE
whole_table kinds.TsTypeOperator = rows_of types.TS_TYPE_OPERATOR
whole_table kinds.TsIndexedAccessType = rows_of types.TS_INDEXED_ACCESS_TYPE
whole_table kinds.TsMappedType = rows_of types.TS_MAPPED_TYPE
whole_table kinds.TsLitType = rows_of types.TS_LIT_TYPE
whole_table kinds.TsTplLitType = rows_of types.TS_TPL_LIT_TYPE
whole_table kinds.TsTypePredicate = rows_of types.TS_TYPE_PREDICATE
whole_table kinds.TsImportType = rows_of types.TS_IMPORT_TYPE
whole_table kinds.TsQualifiedName = rows_of types.TS_QUALIFIED_NAME
whole_table kinds.TsCallSignatureDecl = rows_of types.TS_CALL_SIGNATURE_DECL
whole_table kinds.TsConstructSignatureDecl = rows_of types.TS_CONSTRUCT_SIGNATURE_DECL
whole_table kinds.TsPropertySignature = rows_of types.TS_PROPERTY_SIGNATURE
whole_table kinds.TsGetterSignature = rows_of types.TS_GETTER_SIGNATURE
whole_table kinds.TsSetterSignature = rows_of types.TS_SETTER_SIGNATURE
whole_table kinds.TsMethodSignature = rows_of types.TS_METHOD_SIGNATURE
whole_table kinds.TsTypeParam = rows_of types.TS_TYPE_PARAM
whole_table kinds.TsTypeParamDecl = rows_of types.TS_TYPE_PARAM_DECL
whole_table kinds.TsTypeParamInstantiation = rows_of types.TS_TYPE_PARAM_INSTANTIATION
whole_table kinds.TsTypeAnn = rows_of types.TS_TYPE_ANN
whole_table _ = []

abbrev pub decorators_table : Kind → List Row
decorators_table kinds.ClassDecl = rows_of statements.CLASS_DECL_DECORATORS
decorators_table kinds.ClassExpr = rows_of expressions.CLASS_EXPR_DECORATORS
decorators_table kinds.Function = rows_of classes.FUNCTION_DECORATORS
decorators_table kinds.Class = rows_of classes.CLASS_DECORATORS
decorators_table _ = []

abbrev pub modifiers_table : Kind → List Row
modifiers_table kinds.Class = rows_of classes.CLASS_MODIFIERS
modifiers_table _ = []

abbrev pub async_table : Kind → List Row
async_table kinds.Function = rows_of classes.FUNCTION_ASYNC
async_table _ = []

abbrev pub star_table : Kind → List Row
star_table kinds.Function = rows_of classes.FUNCTION_STAR
star_table _ = []

abbrev pub bare_table : Kind → List Row
bare_table kinds.ClassDecl = rows_of statements.CLASS_DECL_BARE
bare_table kinds.ClassExpr = rows_of expressions.CLASS_EXPR_BARE
bare_table kind = whole_table kind

abbrev pub head_table : Kind → List Row
head_table kinds.VarDecl = rows_of statements.VAR_DECL_HEAD
head_table kinds.UsingDecl = rows_of statements.USING_DECL_HEAD
head_table kind = whole_table kind

abbrev pub definite_table : Kind → List Row
definite_table kinds.BindingIdent = rows_of programs.BINDING_IDENT_DEFINITE
definite_table kind = whole_table kind

abbrev pub optional_table : Kind → List Row
optional_table kinds.MemberExpr = rows_of expressions.MEMBER_EXPR_OPTIONAL
optional_table kinds.OptCall = rows_of expressions.OPT_CALL_OPTIONAL
optional_table kind = whole_table kind

abbrev pub in_table : Kind → List Row
in_table kinds.TsTypeParam = rows_of types.TS_TYPE_PARAM_IN
in_table kind = whole_table kind

abbrev pub member_table : Kind → List Row
member_table kinds.TsIndexSignature = rows_of classes.TS_INDEX_SIGNATURE_MEMBER
member_table kind = whole_table kind

abbrev pub table : Kind → Slot → List Row
table kind slots.Whole = whole_table kind
table kind slots.Decorators = decorators_table kind
table kind slots.Modifiers = modifiers_table kind
table kind slots.Async = async_table kind
table kind slots.Star = star_table kind
table kind slots.Bare = bare_table kind
table kind slots.Head = head_table kind
table kind slots.Definite = definite_table kind
table kind slots.Optional = optional_table kind
table kind slots.In = in_table kind
table kind slots.Member = member_table kind
