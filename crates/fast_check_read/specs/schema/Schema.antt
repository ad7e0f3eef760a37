-- Written by forms/write.py from forms/forms.txt.
-- The tables: which fields a form has, which forms a choice is between, which words a list has.
use Rattle.std.specs.Prelude.{List, []}
use Rattle.fast_check_tree_syntax.specs.declared.kind.Kind.{Kind}
use Rattle.fast_check_tree_syntax.specs.declared.kind.Kind.TheVariants as kinds
use Rattle.fast_check_read.specs.declared.schema.form.Choice.{Choice}
use Rattle.fast_check_read.specs.declared.schema.form.Choice.TheVariants as choices
use Rattle.fast_check_read.specs.declared.schema.form.Words.{Words}
use Rattle.fast_check_read.specs.declared.schema.form.Words.TheVariants as lists
use Rattle.fast_check_read.specs.schema.Rows.{FieldRow, VariantRow, WordRow, field_table, variant_table, word_table}
use Rattle.fast_check_read.specs.declared.schema.names.TheConstants as names
use Rattle.fast_check_read.specs.declared.schema.program.TheConstants as program
use Rattle.fast_check_read.specs.declared.schema.statements.TheConstants as statements
use Rattle.fast_check_read.specs.declared.schema.expressions.TheConstants as expressions
use Rattle.fast_check_read.specs.declared.schema.patterns.TheConstants as patterns
use Rattle.fast_check_read.specs.declared.schema.functions.TheConstants as functions
use Rattle.fast_check_read.specs.declared.schema.types.TheConstants as types

-- the fields of a form, in the order of its node's parts: a leaf, a list and a mark have none
abbrev pub fields_of : Kind → List FieldRow
fields_of kinds.Ident = field_table names.IDENT
fields_of kinds.IdentName = field_table names.IDENT_NAME
fields_of kinds.BindingIdent = field_table names.BINDING_IDENT
fields_of kinds.PrivateName = field_table names.PRIVATE_NAME
fields_of kinds.Str = field_table names.STR
fields_of kinds.Bool = field_table names.BOOL
fields_of kinds.Null = field_table names.NULL
fields_of kinds.Number = field_table names.NUMBER
fields_of kinds.BigInt = field_table names.BIG_INT
fields_of kinds.Regex = field_table names.REGEX
fields_of kinds.JSXText = field_table names.JSX_TEXT
fields_of kinds.Module = field_table program.MODULE
fields_of kinds.Script = field_table program.SCRIPT
fields_of kinds.ImportDecl = field_table program.IMPORT_DECL
fields_of kinds.ExportDecl = field_table program.EXPORT_DECL
fields_of kinds.NamedExport = field_table program.NAMED_EXPORT
fields_of kinds.ExportDefaultDecl = field_table program.EXPORT_DEFAULT_DECL
fields_of kinds.ExportDefaultExpr = field_table program.EXPORT_DEFAULT_EXPR
fields_of kinds.ExportAll = field_table program.EXPORT_ALL
fields_of kinds.TsImportEqualsDecl = field_table program.TS_IMPORT_EQUALS_DECL
fields_of kinds.TsExportAssignment = field_table program.TS_EXPORT_ASSIGNMENT
fields_of kinds.TsNamespaceExportDecl = field_table program.TS_NAMESPACE_EXPORT_DECL
fields_of kinds.ImportNamedSpecifier = field_table program.IMPORT_NAMED_SPECIFIER
fields_of kinds.ImportDefaultSpecifier = field_table program.IMPORT_DEFAULT_SPECIFIER
fields_of kinds.ImportStarAsSpecifier = field_table program.IMPORT_STAR_AS_SPECIFIER
fields_of kinds.ExportNamespaceSpecifier = field_table program.EXPORT_NAMESPACE_SPECIFIER
fields_of kinds.ExportDefaultSpecifier = field_table program.EXPORT_DEFAULT_SPECIFIER
fields_of kinds.ExportNamedSpecifier = field_table program.EXPORT_NAMED_SPECIFIER
fields_of kinds.TsExternalModuleRef = field_table program.TS_EXTERNAL_MODULE_REF
fields_of kinds.BlockStmt = field_table statements.BLOCK_STMT
fields_of kinds.EmptyStmt = field_table statements.EMPTY_STMT
fields_of kinds.DebuggerStmt = field_table statements.DEBUGGER_STMT
fields_of kinds.WithStmt = field_table statements.WITH_STMT
fields_of kinds.ReturnStmt = field_table statements.RETURN_STMT
fields_of kinds.LabeledStmt = field_table statements.LABELED_STMT
fields_of kinds.BreakStmt = field_table statements.BREAK_STMT
fields_of kinds.ContinueStmt = field_table statements.CONTINUE_STMT
fields_of kinds.IfStmt = field_table statements.IF_STMT
fields_of kinds.SwitchStmt = field_table statements.SWITCH_STMT
fields_of kinds.SwitchCase = field_table statements.SWITCH_CASE
fields_of kinds.ThrowStmt = field_table statements.THROW_STMT
fields_of kinds.TryStmt = field_table statements.TRY_STMT
fields_of kinds.CatchClause = field_table statements.CATCH_CLAUSE
fields_of kinds.WhileStmt = field_table statements.WHILE_STMT
fields_of kinds.DoWhileStmt = field_table statements.DO_WHILE_STMT
fields_of kinds.ForStmt = field_table statements.FOR_STMT
fields_of kinds.ForInStmt = field_table statements.FOR_IN_STMT
fields_of kinds.ForOfStmt = field_table statements.FOR_OF_STMT
fields_of kinds.ExprStmt = field_table statements.EXPR_STMT
fields_of kinds.ClassDecl = field_table statements.CLASS_DECL
fields_of kinds.FnDecl = field_table statements.FN_DECL
fields_of kinds.VarDecl = field_table statements.VAR_DECL
fields_of kinds.VarDeclarator = field_table statements.VAR_DECLARATOR
fields_of kinds.UsingDecl = field_table statements.USING_DECL
fields_of kinds.TsInterfaceDecl = field_table statements.TS_INTERFACE_DECL
fields_of kinds.TsExprWithTypeArgs = field_table statements.TS_EXPR_WITH_TYPE_ARGS
fields_of kinds.TsInterfaceBody = field_table statements.TS_INTERFACE_BODY
fields_of kinds.TsTypeAliasDecl = field_table statements.TS_TYPE_ALIAS_DECL
fields_of kinds.TsEnumDecl = field_table statements.TS_ENUM_DECL
fields_of kinds.TsEnumMember = field_table statements.TS_ENUM_MEMBER
fields_of kinds.TsModuleDecl = field_table statements.TS_MODULE_DECL
fields_of kinds.TsModuleBlock = field_table statements.TS_MODULE_BLOCK
fields_of kinds.TsNamespaceDecl = field_table statements.TS_NAMESPACE_DECL
fields_of kinds.ThisExpr = field_table expressions.THIS_EXPR
fields_of kinds.ArrayLit = field_table expressions.ARRAY_LIT
fields_of kinds.ObjectLit = field_table expressions.OBJECT_LIT
fields_of kinds.FnExpr = field_table expressions.FN_EXPR
fields_of kinds.UnaryExpr = field_table expressions.UNARY_EXPR
fields_of kinds.UpdateExpr = field_table expressions.UPDATE_EXPR
fields_of kinds.BinExpr = field_table expressions.BIN_EXPR
fields_of kinds.AssignExpr = field_table expressions.ASSIGN_EXPR
fields_of kinds.MemberExpr = field_table expressions.MEMBER_EXPR
fields_of kinds.SuperPropExpr = field_table expressions.SUPER_PROP_EXPR
fields_of kinds.CondExpr = field_table expressions.COND_EXPR
fields_of kinds.CallExpr = field_table expressions.CALL_EXPR
fields_of kinds.NewExpr = field_table expressions.NEW_EXPR
fields_of kinds.SeqExpr = field_table expressions.SEQ_EXPR
fields_of kinds.Tpl = field_table expressions.TPL
fields_of kinds.TplElement = field_table expressions.TPL_ELEMENT
fields_of kinds.TaggedTpl = field_table expressions.TAGGED_TPL
fields_of kinds.ArrowExpr = field_table expressions.ARROW_EXPR
fields_of kinds.ClassExpr = field_table expressions.CLASS_EXPR
fields_of kinds.YieldExpr = field_table expressions.YIELD_EXPR
fields_of kinds.MetaPropExpr = field_table expressions.META_PROP_EXPR
fields_of kinds.AwaitExpr = field_table expressions.AWAIT_EXPR
fields_of kinds.ParenExpr = field_table expressions.PAREN_EXPR
fields_of kinds.JSXMember = field_table expressions.JSX_MEMBER
fields_of kinds.JSXNamespacedName = field_table expressions.JSX_NAMESPACED_NAME
fields_of kinds.JSXEmpty = field_table expressions.JSX_EMPTY
fields_of kinds.JSXElement = field_table expressions.JSX_ELEMENT
fields_of kinds.JSXFragment = field_table expressions.JSX_FRAGMENT
fields_of kinds.TsTypeAssertion = field_table expressions.TS_TYPE_ASSERTION
fields_of kinds.TsAsExpr = field_table expressions.TS_AS_EXPR
fields_of kinds.TsSatisfiesExpr = field_table expressions.TS_SATISFIES_EXPR
fields_of kinds.TsConstAssertion = field_table expressions.TS_CONST_ASSERTION
fields_of kinds.TsNonNullExpr = field_table expressions.TS_NON_NULL_EXPR
fields_of kinds.TsInstantiation = field_table expressions.TS_INSTANTIATION
fields_of kinds.OptChainExpr = field_table expressions.OPT_CHAIN_EXPR
fields_of kinds.Invalid = field_table expressions.INVALID
fields_of kinds.OptCall = field_table expressions.OPT_CALL
fields_of kinds.ExprOrSpread = field_table expressions.EXPR_OR_SPREAD
fields_of kinds.SpreadElement = field_table expressions.SPREAD_ELEMENT
fields_of kinds.KeyValueProp = field_table expressions.KEY_VALUE_PROP
fields_of kinds.AssignProp = field_table expressions.ASSIGN_PROP
fields_of kinds.GetterProp = field_table expressions.GETTER_PROP
fields_of kinds.SetterProp = field_table expressions.SETTER_PROP
fields_of kinds.MethodProp = field_table expressions.METHOD_PROP
fields_of kinds.ComputedPropName = field_table expressions.COMPUTED_PROP_NAME
fields_of kinds.Super = field_table expressions.SUPER
fields_of kinds.Import = field_table expressions.IMPORT
fields_of kinds.ArrayPat = field_table patterns.ARRAY_PAT
fields_of kinds.RestPat = field_table patterns.REST_PAT
fields_of kinds.ObjectPat = field_table patterns.OBJECT_PAT
fields_of kinds.AssignPat = field_table patterns.ASSIGN_PAT
fields_of kinds.KeyValuePatProp = field_table patterns.KEY_VALUE_PAT_PROP
fields_of kinds.AssignPatProp = field_table patterns.ASSIGN_PAT_PROP
fields_of kinds.Function = field_table functions.FUNCTION
fields_of kinds.Param = field_table functions.PARAM
fields_of kinds.Class = field_table functions.CLASS
fields_of kinds.Decorator = field_table functions.DECORATOR
fields_of kinds.Constructor = field_table functions.CONSTRUCTOR
fields_of kinds.ClassMethod = field_table functions.CLASS_METHOD
fields_of kinds.PrivateMethod = field_table functions.PRIVATE_METHOD
fields_of kinds.ClassProp = field_table functions.CLASS_PROP
fields_of kinds.PrivateProp = field_table functions.PRIVATE_PROP
fields_of kinds.TsIndexSignature = field_table functions.TS_INDEX_SIGNATURE
fields_of kinds.StaticBlock = field_table functions.STATIC_BLOCK
fields_of kinds.AutoAccessor = field_table functions.AUTO_ACCESSOR
fields_of kinds.TsParamProp = field_table functions.TS_PARAM_PROP
fields_of kinds.TsKeywordType = field_table types.TS_KEYWORD_TYPE
fields_of kinds.TsThisType = field_table types.TS_THIS_TYPE
fields_of kinds.TsFnType = field_table types.TS_FN_TYPE
fields_of kinds.TsConstructorType = field_table types.TS_CONSTRUCTOR_TYPE
fields_of kinds.TsTypeRef = field_table types.TS_TYPE_REF
fields_of kinds.TsTypeQuery = field_table types.TS_TYPE_QUERY
fields_of kinds.TsTypeLit = field_table types.TS_TYPE_LIT
fields_of kinds.TsArrayType = field_table types.TS_ARRAY_TYPE
fields_of kinds.TsTupleType = field_table types.TS_TUPLE_TYPE
fields_of kinds.TsTupleElement = field_table types.TS_TUPLE_ELEMENT
fields_of kinds.TsOptionalType = field_table types.TS_OPTIONAL_TYPE
fields_of kinds.TsRestType = field_table types.TS_REST_TYPE
fields_of kinds.TsParenthesizedType = field_table types.TS_PARENTHESIZED_TYPE
fields_of kinds.TsUnionType = field_table types.TS_UNION_TYPE
fields_of kinds.TsIntersectionType = field_table types.TS_INTERSECTION_TYPE
fields_of kinds.TsConditionalType = field_table types.TS_CONDITIONAL_TYPE
fields_of kinds.TsInferType = field_table types.TS_INFER_TYPE
fields_of kinds.TsTypeOperator = field_table types.TS_TYPE_OPERATOR
fields_of kinds.TsIndexedAccessType = field_table types.TS_INDEXED_ACCESS_TYPE
fields_of kinds.TsMappedType = field_table types.TS_MAPPED_TYPE
fields_of kinds.TsLitType = field_table types.TS_LIT_TYPE
fields_of kinds.TsTplLitType = field_table types.TS_TPL_LIT_TYPE
fields_of kinds.TsTypePredicate = field_table types.TS_TYPE_PREDICATE
fields_of kinds.TsImportType = field_table types.TS_IMPORT_TYPE
fields_of kinds.TsQualifiedName = field_table types.TS_QUALIFIED_NAME
fields_of kinds.TsCallSignatureDecl = field_table types.TS_CALL_SIGNATURE_DECL
fields_of kinds.TsConstructSignatureDecl = field_table types.TS_CONSTRUCT_SIGNATURE_DECL
fields_of kinds.TsPropertySignature = field_table types.TS_PROPERTY_SIGNATURE
fields_of kinds.TsGetterSignature = field_table types.TS_GETTER_SIGNATURE
fields_of kinds.TsSetterSignature = field_table types.TS_SETTER_SIGNATURE
fields_of kinds.TsMethodSignature = field_table types.TS_METHOD_SIGNATURE
fields_of kinds.TsTypeParam = field_table types.TS_TYPE_PARAM
fields_of kinds.TsTypeParamDecl = field_table types.TS_TYPE_PARAM_DECL
fields_of kinds.TsTypeParamInstantiation = field_table types.TS_TYPE_PARAM_INSTANTIATION
fields_of kinds.TsTypeAnn = field_table types.TS_TYPE_ANN
fields_of kinds.Leaf = []
fields_of kinds.List = []
fields_of kinds.TargetPat = []
fields_of kinds.PatExpr = []

-- the forms that a choice is between
abbrev pub variants_of : Choice → List VariantRow
variants_of choices.Lit = variant_table names.LIT_VARIANTS
variants_of choices.Program = variant_table program.PROGRAM_VARIANTS
variants_of choices.ModuleItem = variant_table program.MODULE_ITEM_VARIANTS
variants_of choices.ModuleDecl = variant_table program.MODULE_DECL_VARIANTS
variants_of choices.ImportSpecifier = variant_table program.IMPORT_SPECIFIER_VARIANTS
variants_of choices.ExportSpecifier = variant_table program.EXPORT_SPECIFIER_VARIANTS
variants_of choices.ModuleExportName = variant_table program.MODULE_EXPORT_NAME_VARIANTS
variants_of choices.DefaultDecl = variant_table program.DEFAULT_DECL_VARIANTS
variants_of choices.TsModuleRef = variant_table program.TS_MODULE_REF_VARIANTS
variants_of choices.Stmt = variant_table statements.STMT_VARIANTS
variants_of choices.VarDeclOrExpr = variant_table statements.VAR_DECL_OR_EXPR_VARIANTS
variants_of choices.ForHead = variant_table statements.FOR_HEAD_VARIANTS
variants_of choices.Decl = variant_table statements.DECL_VARIANTS
variants_of choices.TsEnumMemberId = variant_table statements.TS_ENUM_MEMBER_ID_VARIANTS
variants_of choices.TsModuleName = variant_table statements.TS_MODULE_NAME_VARIANTS
variants_of choices.TsNamespaceBody = variant_table statements.TS_NAMESPACE_BODY_VARIANTS
variants_of choices.Expr = variant_table expressions.EXPR_VARIANTS
variants_of choices.BlockStmtOrExpr = variant_table expressions.BLOCK_STMT_OR_EXPR_VARIANTS
variants_of choices.OptChainBase = variant_table expressions.OPT_CHAIN_BASE_VARIANTS
variants_of choices.PropOrSpread = variant_table expressions.PROP_OR_SPREAD_VARIANTS
variants_of choices.Prop = variant_table expressions.PROP_VARIANTS
variants_of choices.PropName = variant_table expressions.PROP_NAME_VARIANTS
variants_of choices.MemberProp = variant_table expressions.MEMBER_PROP_VARIANTS
variants_of choices.Callee = variant_table expressions.CALLEE_VARIANTS
variants_of choices.AssignTarget = variant_table expressions.ASSIGN_TARGET_VARIANTS
variants_of choices.Pat = variant_table patterns.PAT_VARIANTS
variants_of choices.ObjectPatProp = variant_table patterns.OBJECT_PAT_PROP_VARIANTS
variants_of choices.ClassMember = variant_table functions.CLASS_MEMBER_VARIANTS
variants_of choices.Key = variant_table functions.KEY_VARIANTS
variants_of choices.ParamOrTsParamProp = variant_table functions.PARAM_OR_TS_PARAM_PROP_VARIANTS
variants_of choices.TsParamPropParam = variant_table functions.TS_PARAM_PROP_PARAM_VARIANTS
variants_of choices.TsType = variant_table types.TS_TYPE_VARIANTS
variants_of choices.TsFnOrConstructorType = variant_table types.TS_FN_OR_CONSTRUCTOR_TYPE_VARIANTS
variants_of choices.TsTypeQueryExpr = variant_table types.TS_TYPE_QUERY_EXPR_VARIANTS
variants_of choices.TsUnionOrIntersectionType = variant_table types.TS_UNION_OR_INTERSECTION_TYPE_VARIANTS
variants_of choices.TsLit = variant_table types.TS_LIT_VARIANTS
variants_of choices.TsThisTypeOrIdent = variant_table types.TS_THIS_TYPE_OR_IDENT_VARIANTS
variants_of choices.TsEntityName = variant_table types.TS_ENTITY_NAME_VARIANTS
variants_of choices.TsTypeElement = variant_table types.TS_TYPE_ELEMENT_VARIANTS

-- the words of a list
abbrev pub words_of : Words → List WordRow
words_of lists.VarDeclKind = word_table statements.VAR_DECL_KIND_WORDS
words_of lists.MethodKind = word_table functions.METHOD_KIND_WORDS
words_of lists.Accessibility = word_table functions.ACCESSIBILITY_WORDS
words_of lists.TsKeywordTypeKind = word_table types.TS_KEYWORD_TYPE_KIND_WORDS
words_of lists.TsTypeOperatorOp = word_table types.TS_TYPE_OPERATOR_OP_WORDS
