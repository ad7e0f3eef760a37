-- The names of the variants of each choice, and what each holds. It was taken from the page of forms once, was read through beside the list of
-- swc's forms, and is not written from the page: a later change of that has no proof unless this one changes too.
use Prim.Native.String.{String}
use Rattle.std.specs.Prelude.{◌≡◌, List, [], ◌∷◌, codes}
use Rattle.fast_check_tree_syntax.specs.declared.kind.Kind.{Kind}
use Rattle.fast_check_tree_syntax.specs.declared.kind.Kind.TheVariants as kinds
use Rattle.fast_check_read.specs.declared.schema.form.Choice.{Choice}
use Rattle.fast_check_read.specs.declared.schema.form.Choice.TheVariants as choices
use Rattle.fast_check_read.specs.declared.schema.form.Form.TheVariants as forms
use Rattle.fast_check_read.specs.schema.Rows.{VariantRow}
use Rattle.fast_check_read.specs.schema.Schema.{variants_of}

abbrev pub form : String → Kind → VariantRow
form name kind = record { name = codes name; form = forms.Struct kind }

abbrev pub mark : String → Kind → VariantRow
mark name kind = record { name = codes name; form = forms.Marked kind }

abbrev pub choice : String → Choice → VariantRow
choice name held = record { name = codes name; form = forms.Choice held }

abbrev pub named_variants : Choice → List VariantRow
named_variants choices.Lit = form "Str" kinds.Str ∷ form "Bool" kinds.Bool ∷ form "Null" kinds.Null ∷ form "Num" kinds.Number ∷
    form "BigInt" kinds.BigInt ∷ form "Regex" kinds.Regex ∷ form "JSXText" kinds.JSXText ∷ []
named_variants choices.Program = form "Module" kinds.Module ∷ form "Script" kinds.Script ∷ []
named_variants choices.ModuleItem = choice "ModuleDecl" choices.ModuleDecl ∷ choice "Stmt" choices.Stmt ∷ []
named_variants choices.ModuleDecl = form "Import" kinds.ImportDecl ∷ form "ExportDecl" kinds.ExportDecl ∷ form "ExportNamed" kinds.NamedExport ∷
    form "ExportDefaultDecl" kinds.ExportDefaultDecl ∷ form "ExportDefaultExpr" kinds.ExportDefaultExpr ∷ form "ExportAll" kinds.ExportAll ∷
    form "TsImportEquals" kinds.TsImportEqualsDecl ∷ form "TsExportAssignment" kinds.TsExportAssignment ∷
    form "TsNamespaceExport" kinds.TsNamespaceExportDecl ∷ []
named_variants choices.ImportSpecifier = form "Named" kinds.ImportNamedSpecifier ∷ form "Default" kinds.ImportDefaultSpecifier ∷
    form "Namespace" kinds.ImportStarAsSpecifier ∷ []
named_variants choices.ExportSpecifier = form "Namespace" kinds.ExportNamespaceSpecifier ∷ form "Default" kinds.ExportDefaultSpecifier ∷
    form "Named" kinds.ExportNamedSpecifier ∷ []
named_variants choices.ModuleExportName = form "Ident" kinds.Ident ∷ form "Str" kinds.Str ∷ []
named_variants choices.DefaultDecl = form "Class" kinds.ClassExpr ∷ form "Fn" kinds.FnExpr ∷ form "TsInterfaceDecl" kinds.TsInterfaceDecl ∷ []
named_variants choices.TsModuleRef = choice "TsEntityName" choices.TsEntityName ∷ form "TsExternalModuleRef" kinds.TsExternalModuleRef ∷ []
named_variants choices.Stmt = form "Block" kinds.BlockStmt ∷ form "Empty" kinds.EmptyStmt ∷ form "Debugger" kinds.DebuggerStmt ∷
    form "With" kinds.WithStmt ∷ form "Return" kinds.ReturnStmt ∷ form "Labeled" kinds.LabeledStmt ∷ form "Break" kinds.BreakStmt ∷
    form "Continue" kinds.ContinueStmt ∷ form "If" kinds.IfStmt ∷ form "Switch" kinds.SwitchStmt ∷ form "Throw" kinds.ThrowStmt ∷
    form "Try" kinds.TryStmt ∷ form "While" kinds.WhileStmt ∷ form "DoWhile" kinds.DoWhileStmt ∷ form "For" kinds.ForStmt ∷
    form "ForIn" kinds.ForInStmt ∷ form "ForOf" kinds.ForOfStmt ∷ choice "Decl" choices.Decl ∷ form "Expr" kinds.ExprStmt ∷ []
named_variants choices.VarDeclOrExpr = form "VarDecl" kinds.VarDecl ∷ choice "Expr" choices.Expr ∷ []
named_variants choices.ForHead = form "VarDecl" kinds.VarDecl ∷ form "UsingDecl" kinds.UsingDecl ∷ choice "Pat" choices.Pat ∷ []
named_variants choices.Decl = form "Class" kinds.ClassDecl ∷ form "Fn" kinds.FnDecl ∷ form "Var" kinds.VarDecl ∷ form "Using" kinds.UsingDecl ∷
    form "TsInterface" kinds.TsInterfaceDecl ∷ form "TsTypeAlias" kinds.TsTypeAliasDecl ∷ form "TsEnum" kinds.TsEnumDecl ∷
    form "TsModule" kinds.TsModuleDecl ∷ []
named_variants choices.TsEnumMemberId = form "Ident" kinds.Ident ∷ form "Str" kinds.Str ∷ []
named_variants choices.TsModuleName = form "Ident" kinds.Ident ∷ form "Str" kinds.Str ∷ []
named_variants choices.TsNamespaceBody = form "TsModuleBlock" kinds.TsModuleBlock ∷ form "TsNamespaceDecl" kinds.TsNamespaceDecl ∷ []
named_variants choices.Expr = form "This" kinds.ThisExpr ∷ form "Array" kinds.ArrayLit ∷ form "Object" kinds.ObjectLit ∷ form "Fn" kinds.FnExpr ∷
    form "Unary" kinds.UnaryExpr ∷ form "Update" kinds.UpdateExpr ∷ form "Bin" kinds.BinExpr ∷ form "Assign" kinds.AssignExpr ∷
    form "Member" kinds.MemberExpr ∷ form "SuperProp" kinds.SuperPropExpr ∷ form "Cond" kinds.CondExpr ∷ form "Call" kinds.CallExpr ∷
    form "New" kinds.NewExpr ∷ form "Seq" kinds.SeqExpr ∷ form "Ident" kinds.Ident ∷ choice "Lit" choices.Lit ∷ form "Tpl" kinds.Tpl ∷
    form "TaggedTpl" kinds.TaggedTpl ∷ form "Arrow" kinds.ArrowExpr ∷ form "Class" kinds.ClassExpr ∷ form "Yield" kinds.YieldExpr ∷
    form "MetaProp" kinds.MetaPropExpr ∷ form "Await" kinds.AwaitExpr ∷ form "Paren" kinds.ParenExpr ∷ form "JSXMember" kinds.JSXMember ∷
    form "JSXNamespacedName" kinds.JSXNamespacedName ∷ form "JSXEmpty" kinds.JSXEmpty ∷ form "JSXElement" kinds.JSXElement ∷
    form "JSXFragment" kinds.JSXFragment ∷ form "TsTypeAssertion" kinds.TsTypeAssertion ∷ form "TsConstAssertion" kinds.TsConstAssertion ∷
    form "TsNonNull" kinds.TsNonNullExpr ∷ form "TsAs" kinds.TsAsExpr ∷ form "TsInstantiation" kinds.TsInstantiation ∷
    form "TsSatisfies" kinds.TsSatisfiesExpr ∷ form "PrivateName" kinds.PrivateName ∷ form "OptChain" kinds.OptChainExpr ∷
    form "Invalid" kinds.Invalid ∷ []
named_variants choices.BlockStmtOrExpr = form "BlockStmt" kinds.BlockStmt ∷ choice "Expr" choices.Expr ∷ []
named_variants choices.OptChainBase = form "Member" kinds.MemberExpr ∷ form "Call" kinds.OptCall ∷ []
named_variants choices.PropOrSpread = form "Spread" kinds.SpreadElement ∷ choice "Prop" choices.Prop ∷ []
named_variants choices.Prop = form "Shorthand" kinds.Ident ∷ form "KeyValue" kinds.KeyValueProp ∷ form "Assign" kinds.AssignProp ∷
    form "Getter" kinds.GetterProp ∷ form "Setter" kinds.SetterProp ∷ form "Method" kinds.MethodProp ∷ []
named_variants choices.PropName = form "Ident" kinds.IdentName ∷ form "Str" kinds.Str ∷ form "Num" kinds.Number ∷
    form "Computed" kinds.ComputedPropName ∷ form "BigInt" kinds.BigInt ∷ []
named_variants choices.MemberProp = form "Ident" kinds.IdentName ∷ form "PrivateName" kinds.PrivateName ∷ form "Computed" kinds.ComputedPropName ∷ []
named_variants choices.Callee = form "Super" kinds.Super ∷ form "Import" kinds.Import ∷ choice "Expr" choices.Expr ∷ []
named_variants choices.AssignTarget = choice "Simple" choices.Expr ∷ mark "Pat" kinds.TargetPat ∷ []
named_variants choices.Pat = form "Ident" kinds.BindingIdent ∷ form "Array" kinds.ArrayPat ∷ form "Rest" kinds.RestPat ∷
    form "Object" kinds.ObjectPat ∷ form "Assign" kinds.AssignPat ∷ form "Invalid" kinds.Invalid ∷ mark "Expr" kinds.PatExpr ∷ []
named_variants choices.ObjectPatProp = form "KeyValue" kinds.KeyValuePatProp ∷ form "Assign" kinds.AssignPatProp ∷ form "Rest" kinds.RestPat ∷ []
named_variants choices.ClassMember = form "Constructor" kinds.Constructor ∷ form "Method" kinds.ClassMethod ∷
    form "PrivateMethod" kinds.PrivateMethod ∷ form "ClassProp" kinds.ClassProp ∷ form "PrivateProp" kinds.PrivateProp ∷
    form "TsIndexSignature" kinds.TsIndexSignature ∷ form "Empty" kinds.EmptyStmt ∷ form "StaticBlock" kinds.StaticBlock ∷
    form "AutoAccessor" kinds.AutoAccessor ∷ []
named_variants choices.Key = form "Private" kinds.PrivateName ∷ choice "Public" choices.PropName ∷ []
named_variants choices.ParamOrTsParamProp = form "Param" kinds.Param ∷ form "TsParamProp" kinds.TsParamProp ∷ []
named_variants choices.TsParamPropParam = form "Ident" kinds.BindingIdent ∷ form "Assign" kinds.AssignPat ∷ []
named_variants choices.TsType = form "TsKeywordType" kinds.TsKeywordType ∷ form "TsThisType" kinds.TsThisType ∷
    choice "TsFnOrConstructorType" choices.TsFnOrConstructorType ∷ form "TsTypeRef" kinds.TsTypeRef ∷ form "TsTypeQuery" kinds.TsTypeQuery ∷
    form "TsTypeLit" kinds.TsTypeLit ∷ form "TsArrayType" kinds.TsArrayType ∷ form "TsTupleType" kinds.TsTupleType ∷
    form "TsOptionalType" kinds.TsOptionalType ∷ form "TsRestType" kinds.TsRestType ∷
    choice "TsUnionOrIntersectionType" choices.TsUnionOrIntersectionType ∷ form "TsConditionalType" kinds.TsConditionalType ∷
    form "TsInferType" kinds.TsInferType ∷ form "TsParenthesizedType" kinds.TsParenthesizedType ∷ form "TsTypeOperator" kinds.TsTypeOperator ∷
    form "TsIndexedAccessType" kinds.TsIndexedAccessType ∷ form "TsMappedType" kinds.TsMappedType ∷ form "TsLitType" kinds.TsLitType ∷
    form "TsTypePredicate" kinds.TsTypePredicate ∷ form "TsImportType" kinds.TsImportType ∷ []
named_variants choices.TsFnOrConstructorType = form "TsFnType" kinds.TsFnType ∷ form "TsConstructorType" kinds.TsConstructorType ∷ []
named_variants choices.TsTypeQueryExpr = choice "TsEntityName" choices.TsEntityName ∷ form "Import" kinds.TsImportType ∷ []
named_variants choices.TsUnionOrIntersectionType = form "TsUnionType" kinds.TsUnionType ∷ form "TsIntersectionType" kinds.TsIntersectionType ∷ []
named_variants choices.TsLit = form "Number" kinds.Number ∷ form "Str" kinds.Str ∷ form "Bool" kinds.Bool ∷ form "BigInt" kinds.BigInt ∷
    form "Tpl" kinds.TsTplLitType ∷ []
named_variants choices.TsThisTypeOrIdent = form "TsThisType" kinds.TsThisType ∷ form "Ident" kinds.Ident ∷ []
named_variants choices.TsEntityName = form "TsQualifiedName" kinds.TsQualifiedName ∷ form "Ident" kinds.Ident ∷ []
named_variants choices.TsTypeElement = form "TsCallSignatureDecl" kinds.TsCallSignatureDecl ∷
    form "TsConstructSignatureDecl" kinds.TsConstructSignatureDecl ∷ form "TsPropertySignature" kinds.TsPropertySignature ∷
    form "TsGetterSignature" kinds.TsGetterSignature ∷ form "TsSetterSignature" kinds.TsSetterSignature ∷
    form "TsMethodSignature" kinds.TsMethodSignature ∷ form "TsIndexSignature" kinds.TsIndexSignature ∷ []

abbrev pub VariantsAreNamed : Type 0
VariantsAreNamed = (choice : Choice) → variants_of choice ≡ named_variants choice
