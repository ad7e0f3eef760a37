-- Written by forms/write.py from forms/forms.txt.
-- The fields of each form, in the order of its node's parts: the name that JSON has for a field,
-- and the definition that reads it.
use Rattle.std.specs.Prelude.{List, [], ◌∷◌}
use Rattle.fast_check_tree_syntax.specs.declared.kind.Kind.{Kind}
use Rattle.fast_check_tree_syntax.specs.declared.kind.Kind.TheVariants as kinds
use Rattle.fast_check_json.specs.Reading.{Field, tree, range, scope, flag, text}
use Rattle.fast_check_tree_forms_programs.specs.Literals as literals
use Rattle.fast_check_tree_forms_programs.specs.ModuleDecls as module_decls
use Rattle.fast_check_tree_forms_programs.specs.Names as names
use Rattle.fast_check_tree_forms_programs.specs.Programs as programs
use Rattle.fast_check_tree_forms_statements.specs.Declarations as declarations
use Rattle.fast_check_tree_forms_statements.specs.Loops as loops
use Rattle.fast_check_tree_forms_statements.specs.Statements as statements
use Rattle.fast_check_tree_forms_statements.specs.TsDeclarations as ts_declarations
use Rattle.fast_check_tree_forms_expressions.specs.Assertions as assertions
use Rattle.fast_check_tree_forms_expressions.specs.Calls as calls
use Rattle.fast_check_tree_forms_expressions.specs.Expressions as expressions
use Rattle.fast_check_tree_forms_expressions.specs.Jsx as jsx
use Rattle.fast_check_tree_forms_expressions.specs.Operators as operators
use Rattle.fast_check_tree_forms_expressions.specs.Patterns as patterns
use Rattle.fast_check_tree_forms_expressions.specs.Properties as properties
use Rattle.fast_check_tree_forms_expressions.specs.Templates as templates
use Rattle.fast_check_tree_forms_classes.specs.Classes as classes
use Rattle.fast_check_tree_forms_classes.specs.Fields as fields
use Rattle.fast_check_tree_forms_classes.specs.Functions as functions
use Rattle.fast_check_tree_forms_classes.specs.Methods as methods
use Rattle.fast_check_tree_forms_types.specs.Signatures as signatures
use Rattle.fast_check_tree_forms_types.specs.TypeOperators as type_operators
use Rattle.fast_check_tree_forms_types.specs.TypeParams as type_params
use Rattle.fast_check_tree_forms_types.specs.Types as types

-- a leaf and a list have no fields, and a mark has none that JSON shows
abbrev pub fields_of_form : Kind → List Field
fields_of_form kinds.Ident =
    range "span" names.Ident-span ∷ scope "ctxt" names.Ident-ctxt ∷ text "sym" names.Ident-sym ∷
    flag "optional" names.Ident-optional ∷ []
fields_of_form kinds.IdentName = range "span" names.IdentName-span ∷ text "sym" names.IdentName-sym ∷ []
fields_of_form kinds.BindingIdent = tree "id" names.BindingIdent-id ∷ tree "type_ann" names.BindingIdent-type_ann ∷ []
fields_of_form kinds.PrivateName = range "span" names.PrivateName-span ∷ text "name" names.PrivateName-name ∷ []
fields_of_form kinds.Str =
    range "span" literals.Str-span ∷ text "value" literals.Str-value ∷ tree "raw" literals.Str-raw ∷ []
fields_of_form kinds.Bool = range "span" literals.Bool-span ∷ flag "value" literals.Bool-value ∷ []
fields_of_form kinds.Null = range "span" literals.Null-span ∷ []
fields_of_form kinds.Number = range "span" literals.Number-span ∷ text "raw" literals.Number-raw ∷ []
fields_of_form kinds.BigInt = range "span" literals.BigInt-span ∷ text "raw" literals.BigInt-raw ∷ []
fields_of_form kinds.Regex =
    range "span" literals.Regex-span ∷ text "exp" literals.Regex-exp ∷ text "flags" literals.Regex-flags ∷ []
fields_of_form kinds.JSXText = range "span" literals.JSXText-span ∷ text "raw" literals.JSXText-raw ∷ []
fields_of_form kinds.Module =
    range "span" programs.Module-span ∷ tree "body" programs.Module-body ∷ tree "shebang" programs.Module-shebang ∷ []
fields_of_form kinds.Script =
    range "span" programs.Script-span ∷ tree "body" programs.Script-body ∷ tree "shebang" programs.Script-shebang ∷ []
fields_of_form kinds.ImportDecl =
    range "span" module_decls.ImportDecl-span ∷ tree "specifiers" module_decls.ImportDecl-specifiers ∷
    tree "src" module_decls.ImportDecl-src ∷ flag "type_only" module_decls.ImportDecl-type_only ∷
    tree "with" module_decls.ImportDecl-with ∷ text "phase" module_decls.ImportDecl-phase ∷ []
fields_of_form kinds.ExportDecl =
    range "span" module_decls.ExportDecl-span ∷ tree "decl" module_decls.ExportDecl-decl ∷ []
fields_of_form kinds.NamedExport =
    range "span" module_decls.NamedExport-span ∷ tree "specifiers" module_decls.NamedExport-specifiers ∷
    tree "src" module_decls.NamedExport-src ∷ flag "type_only" module_decls.NamedExport-type_only ∷
    tree "with" module_decls.NamedExport-with ∷ []
fields_of_form kinds.ExportDefaultDecl =
    range "span" module_decls.ExportDefaultDecl-span ∷ tree "decl" module_decls.ExportDefaultDecl-decl ∷ []
fields_of_form kinds.ExportDefaultExpr =
    range "span" module_decls.ExportDefaultExpr-span ∷ tree "expr" module_decls.ExportDefaultExpr-expr ∷ []
fields_of_form kinds.ExportAll =
    range "span" module_decls.ExportAll-span ∷ tree "src" module_decls.ExportAll-src ∷
    flag "type_only" module_decls.ExportAll-type_only ∷ tree "with" module_decls.ExportAll-with ∷ []
fields_of_form kinds.TsImportEqualsDecl =
    range "span" module_decls.TsImportEqualsDecl-span ∷ flag "is_export" module_decls.TsImportEqualsDecl-is_export ∷
    flag "is_type_only" module_decls.TsImportEqualsDecl-is_type_only ∷ tree "id" module_decls.TsImportEqualsDecl-id ∷
    tree "module_ref" module_decls.TsImportEqualsDecl-module_ref ∷ []
fields_of_form kinds.TsExportAssignment =
    range "span" module_decls.TsExportAssignment-span ∷ tree "expr" module_decls.TsExportAssignment-expr ∷ []
fields_of_form kinds.TsNamespaceExportDecl =
    range "span" module_decls.TsNamespaceExportDecl-span ∷ tree "id" module_decls.TsNamespaceExportDecl-id ∷ []
fields_of_form kinds.ImportNamedSpecifier =
    range "span" module_decls.ImportNamedSpecifier-span ∷ tree "local" module_decls.ImportNamedSpecifier-local ∷
    tree "imported" module_decls.ImportNamedSpecifier-imported ∷
    flag "is_type_only" module_decls.ImportNamedSpecifier-is_type_only ∷ []
fields_of_form kinds.ImportDefaultSpecifier =
    range "span" module_decls.ImportDefaultSpecifier-span ∷ tree "local" module_decls.ImportDefaultSpecifier-local ∷ []
fields_of_form kinds.ImportStarAsSpecifier =
    range "span" module_decls.ImportStarAsSpecifier-span ∷ tree "local" module_decls.ImportStarAsSpecifier-local ∷ []
fields_of_form kinds.ExportNamespaceSpecifier =
    range "span" module_decls.ExportNamespaceSpecifier-span ∷ tree "name" module_decls.ExportNamespaceSpecifier-name ∷
    []
fields_of_form kinds.ExportDefaultSpecifier = tree "exported" module_decls.ExportDefaultSpecifier-exported ∷ []
fields_of_form kinds.ExportNamedSpecifier =
    range "span" module_decls.ExportNamedSpecifier-span ∷ tree "orig" module_decls.ExportNamedSpecifier-orig ∷
    tree "exported" module_decls.ExportNamedSpecifier-exported ∷
    flag "is_type_only" module_decls.ExportNamedSpecifier-is_type_only ∷ []
fields_of_form kinds.TsExternalModuleRef =
    range "span" module_decls.TsExternalModuleRef-span ∷ tree "expr" module_decls.TsExternalModuleRef-expr ∷ []
fields_of_form kinds.BlockStmt =
    range "span" statements.BlockStmt-span ∷ scope "ctxt" statements.BlockStmt-ctxt ∷
    tree "stmts" statements.BlockStmt-stmts ∷ []
fields_of_form kinds.EmptyStmt = range "span" statements.EmptyStmt-span ∷ []
fields_of_form kinds.DebuggerStmt = range "span" statements.DebuggerStmt-span ∷ []
fields_of_form kinds.WithStmt =
    range "span" statements.WithStmt-span ∷ tree "obj" statements.WithStmt-obj ∷ tree "body" statements.WithStmt-body ∷
    []
fields_of_form kinds.ReturnStmt = range "span" statements.ReturnStmt-span ∷ tree "arg" statements.ReturnStmt-arg ∷ []
fields_of_form kinds.LabeledStmt =
    range "span" statements.LabeledStmt-span ∷ tree "label" statements.LabeledStmt-label ∷
    tree "body" statements.LabeledStmt-body ∷ []
fields_of_form kinds.BreakStmt = range "span" statements.BreakStmt-span ∷ tree "label" statements.BreakStmt-label ∷ []
fields_of_form kinds.ContinueStmt =
    range "span" statements.ContinueStmt-span ∷ tree "label" statements.ContinueStmt-label ∷ []
fields_of_form kinds.IfStmt =
    range "span" statements.IfStmt-span ∷ tree "test" statements.IfStmt-test ∷ tree "cons" statements.IfStmt-cons ∷
    tree "alt" statements.IfStmt-alt ∷ []
fields_of_form kinds.SwitchStmt =
    range "span" statements.SwitchStmt-span ∷ tree "discriminant" statements.SwitchStmt-discriminant ∷
    tree "cases" statements.SwitchStmt-cases ∷ []
fields_of_form kinds.SwitchCase =
    range "span" statements.SwitchCase-span ∷ tree "test" statements.SwitchCase-test ∷
    tree "cons" statements.SwitchCase-cons ∷ []
fields_of_form kinds.ThrowStmt = range "span" statements.ThrowStmt-span ∷ tree "arg" statements.ThrowStmt-arg ∷ []
fields_of_form kinds.TryStmt =
    range "span" statements.TryStmt-span ∷ tree "block" statements.TryStmt-block ∷
    tree "handler" statements.TryStmt-handler ∷ tree "finalizer" statements.TryStmt-finalizer ∷ []
fields_of_form kinds.CatchClause =
    range "span" statements.CatchClause-span ∷ tree "param" statements.CatchClause-param ∷
    tree "body" statements.CatchClause-body ∷ []
fields_of_form kinds.WhileStmt =
    range "span" loops.WhileStmt-span ∷ tree "test" loops.WhileStmt-test ∷ tree "body" loops.WhileStmt-body ∷ []
fields_of_form kinds.DoWhileStmt =
    range "span" loops.DoWhileStmt-span ∷ tree "test" loops.DoWhileStmt-test ∷ tree "body" loops.DoWhileStmt-body ∷ []
fields_of_form kinds.ForStmt =
    range "span" loops.ForStmt-span ∷ tree "init" loops.ForStmt-init ∷ tree "test" loops.ForStmt-test ∷
    tree "update" loops.ForStmt-update ∷ tree "body" loops.ForStmt-body ∷ []
fields_of_form kinds.ForInStmt =
    range "span" loops.ForInStmt-span ∷ tree "left" loops.ForInStmt-left ∷ tree "right" loops.ForInStmt-right ∷
    tree "body" loops.ForInStmt-body ∷ []
fields_of_form kinds.ForOfStmt =
    range "span" loops.ForOfStmt-span ∷ flag "is_await" loops.ForOfStmt-is_await ∷ tree "left" loops.ForOfStmt-left ∷
    tree "right" loops.ForOfStmt-right ∷ tree "body" loops.ForOfStmt-body ∷ []
fields_of_form kinds.ExprStmt = range "span" statements.ExprStmt-span ∷ tree "expr" statements.ExprStmt-expr ∷ []
fields_of_form kinds.ClassDecl =
    tree "ident" declarations.ClassDecl-ident ∷ flag "declare" declarations.ClassDecl-declare ∷
    tree "class" declarations.ClassDecl-class ∷ []
fields_of_form kinds.FnDecl =
    tree "ident" declarations.FnDecl-ident ∷ flag "declare" declarations.FnDecl-declare ∷
    tree "function" declarations.FnDecl-function ∷ []
fields_of_form kinds.VarDecl =
    range "span" declarations.VarDecl-span ∷ scope "ctxt" declarations.VarDecl-ctxt ∷
    tree "kind" declarations.VarDecl-kind ∷ flag "declare" declarations.VarDecl-declare ∷
    tree "decls" declarations.VarDecl-decls ∷ []
fields_of_form kinds.VarDeclarator =
    range "span" declarations.VarDeclarator-span ∷ tree "name" declarations.VarDeclarator-name ∷
    tree "init" declarations.VarDeclarator-init ∷ flag "definite" declarations.VarDeclarator-definite ∷ []
fields_of_form kinds.UsingDecl =
    range "span" declarations.UsingDecl-span ∷ flag "is_await" declarations.UsingDecl-is_await ∷
    tree "decls" declarations.UsingDecl-decls ∷ []
fields_of_form kinds.TsInterfaceDecl =
    range "span" ts_declarations.TsInterfaceDecl-span ∷ tree "id" ts_declarations.TsInterfaceDecl-id ∷
    flag "declare" ts_declarations.TsInterfaceDecl-declare ∷
    tree "type_params" ts_declarations.TsInterfaceDecl-type_params ∷
    tree "extends" ts_declarations.TsInterfaceDecl-extends ∷ tree "body" ts_declarations.TsInterfaceDecl-body ∷ []
fields_of_form kinds.TsExprWithTypeArgs =
    range "span" ts_declarations.TsExprWithTypeArgs-span ∷ tree "expr" ts_declarations.TsExprWithTypeArgs-expr ∷
    tree "type_args" ts_declarations.TsExprWithTypeArgs-type_args ∷ []
fields_of_form kinds.TsInterfaceBody =
    range "span" ts_declarations.TsInterfaceBody-span ∷ tree "body" ts_declarations.TsInterfaceBody-body ∷ []
fields_of_form kinds.TsTypeAliasDecl =
    range "span" ts_declarations.TsTypeAliasDecl-span ∷ flag "declare" ts_declarations.TsTypeAliasDecl-declare ∷
    tree "id" ts_declarations.TsTypeAliasDecl-id ∷ tree "type_params" ts_declarations.TsTypeAliasDecl-type_params ∷
    tree "type_ann" ts_declarations.TsTypeAliasDecl-type_ann ∷ []
fields_of_form kinds.TsEnumDecl =
    range "span" ts_declarations.TsEnumDecl-span ∷ flag "declare" ts_declarations.TsEnumDecl-declare ∷
    flag "is_const" ts_declarations.TsEnumDecl-is_const ∷ tree "id" ts_declarations.TsEnumDecl-id ∷
    tree "members" ts_declarations.TsEnumDecl-members ∷ []
fields_of_form kinds.TsEnumMember =
    range "span" ts_declarations.TsEnumMember-span ∷ tree "id" ts_declarations.TsEnumMember-id ∷
    tree "init" ts_declarations.TsEnumMember-init ∷ []
fields_of_form kinds.TsModuleDecl =
    range "span" ts_declarations.TsModuleDecl-span ∷ flag "declare" ts_declarations.TsModuleDecl-declare ∷
    flag "global" ts_declarations.TsModuleDecl-global ∷ flag "namespace" ts_declarations.TsModuleDecl-namespace ∷
    tree "id" ts_declarations.TsModuleDecl-id ∷ tree "body" ts_declarations.TsModuleDecl-body ∷ []
fields_of_form kinds.TsModuleBlock =
    range "span" ts_declarations.TsModuleBlock-span ∷ tree "body" ts_declarations.TsModuleBlock-body ∷ []
fields_of_form kinds.TsNamespaceDecl =
    range "span" ts_declarations.TsNamespaceDecl-span ∷ flag "declare" ts_declarations.TsNamespaceDecl-declare ∷
    flag "global" ts_declarations.TsNamespaceDecl-global ∷ tree "id" ts_declarations.TsNamespaceDecl-id ∷
    tree "body" ts_declarations.TsNamespaceDecl-body ∷ []
fields_of_form kinds.ThisExpr = range "span" expressions.ThisExpr-span ∷ []
fields_of_form kinds.ArrayLit = range "span" expressions.ArrayLit-span ∷ tree "elems" expressions.ArrayLit-elems ∷ []
fields_of_form kinds.ObjectLit = range "span" expressions.ObjectLit-span ∷ tree "props" expressions.ObjectLit-props ∷ []
fields_of_form kinds.FnExpr = tree "ident" expressions.FnExpr-ident ∷ tree "function" expressions.FnExpr-function ∷ []
fields_of_form kinds.UnaryExpr =
    range "span" operators.UnaryExpr-span ∷ text "op" operators.UnaryExpr-op ∷ tree "arg" operators.UnaryExpr-arg ∷ []
fields_of_form kinds.UpdateExpr =
    range "span" operators.UpdateExpr-span ∷ text "op" operators.UpdateExpr-op ∷
    flag "prefix" operators.UpdateExpr-prefix ∷ tree "arg" operators.UpdateExpr-arg ∷ []
fields_of_form kinds.BinExpr =
    range "span" operators.BinExpr-span ∷ text "op" operators.BinExpr-op ∷ tree "left" operators.BinExpr-left ∷
    tree "right" operators.BinExpr-right ∷ []
fields_of_form kinds.AssignExpr =
    range "span" operators.AssignExpr-span ∷ text "op" operators.AssignExpr-op ∷ tree "left" operators.AssignExpr-left ∷
    tree "right" operators.AssignExpr-right ∷ []
fields_of_form kinds.MemberExpr =
    range "span" calls.MemberExpr-span ∷ tree "obj" calls.MemberExpr-obj ∷ tree "prop" calls.MemberExpr-prop ∷ []
fields_of_form kinds.SuperPropExpr = range "span" calls.SuperPropExpr-span ∷ tree "prop" calls.SuperPropExpr-prop ∷ []
fields_of_form kinds.CondExpr =
    range "span" operators.CondExpr-span ∷ tree "test" operators.CondExpr-test ∷ tree "cons" operators.CondExpr-cons ∷
    tree "alt" operators.CondExpr-alt ∷ []
fields_of_form kinds.CallExpr =
    range "span" calls.CallExpr-span ∷ scope "ctxt" calls.CallExpr-ctxt ∷ tree "callee" calls.CallExpr-callee ∷
    tree "args" calls.CallExpr-args ∷ tree "type_args" calls.CallExpr-type_args ∷ []
fields_of_form kinds.NewExpr =
    range "span" calls.NewExpr-span ∷ scope "ctxt" calls.NewExpr-ctxt ∷ tree "callee" calls.NewExpr-callee ∷
    tree "args" calls.NewExpr-args ∷ tree "type_args" calls.NewExpr-type_args ∷ []
fields_of_form kinds.SeqExpr = range "span" expressions.SeqExpr-span ∷ tree "exprs" expressions.SeqExpr-exprs ∷ []
fields_of_form kinds.Tpl =
    range "span" templates.Tpl-span ∷ tree "exprs" templates.Tpl-exprs ∷ tree "quasis" templates.Tpl-quasis ∷ []
fields_of_form kinds.TplElement =
    range "span" templates.TplElement-span ∷ flag "tail" templates.TplElement-tail ∷
    tree "cooked" templates.TplElement-cooked ∷ text "raw" templates.TplElement-raw ∷ []
fields_of_form kinds.TaggedTpl =
    range "span" templates.TaggedTpl-span ∷ scope "ctxt" templates.TaggedTpl-ctxt ∷ tree "tag" templates.TaggedTpl-tag ∷
    tree "type_params" templates.TaggedTpl-type_params ∷ tree "tpl" templates.TaggedTpl-tpl ∷ []
fields_of_form kinds.ArrowExpr =
    range "span" expressions.ArrowExpr-span ∷ scope "ctxt" expressions.ArrowExpr-ctxt ∷
    tree "params" expressions.ArrowExpr-params ∷ tree "body" expressions.ArrowExpr-body ∷
    flag "is_async" expressions.ArrowExpr-is_async ∷ flag "is_generator" expressions.ArrowExpr-is_generator ∷
    tree "type_params" expressions.ArrowExpr-type_params ∷ tree "return_type" expressions.ArrowExpr-return_type ∷ []
fields_of_form kinds.ClassExpr =
    tree "ident" expressions.ClassExpr-ident ∷ tree "class" expressions.ClassExpr-class ∷ []
fields_of_form kinds.YieldExpr =
    range "span" expressions.YieldExpr-span ∷ tree "arg" expressions.YieldExpr-arg ∷
    flag "delegate" expressions.YieldExpr-delegate ∷ []
fields_of_form kinds.MetaPropExpr =
    range "span" expressions.MetaPropExpr-span ∷ text "kind" expressions.MetaPropExpr-kind ∷ []
fields_of_form kinds.AwaitExpr = range "span" expressions.AwaitExpr-span ∷ tree "arg" expressions.AwaitExpr-arg ∷ []
fields_of_form kinds.ParenExpr = range "span" expressions.ParenExpr-span ∷ tree "expr" expressions.ParenExpr-expr ∷ []
fields_of_form kinds.JSXMember = range "span" jsx.JSXMember-span ∷ text "raw" jsx.JSXMember-raw ∷ []
fields_of_form kinds.JSXNamespacedName =
    range "span" jsx.JSXNamespacedName-span ∷ text "raw" jsx.JSXNamespacedName-raw ∷ []
fields_of_form kinds.JSXEmpty = range "span" jsx.JSXEmpty-span ∷ text "raw" jsx.JSXEmpty-raw ∷ []
fields_of_form kinds.JSXElement = range "span" jsx.JSXElement-span ∷ text "raw" jsx.JSXElement-raw ∷ []
fields_of_form kinds.JSXFragment = range "span" jsx.JSXFragment-span ∷ text "raw" jsx.JSXFragment-raw ∷ []
fields_of_form kinds.TsTypeAssertion =
    range "span" assertions.TsTypeAssertion-span ∷ tree "expr" assertions.TsTypeAssertion-expr ∷
    tree "type_ann" assertions.TsTypeAssertion-type_ann ∷ []
fields_of_form kinds.TsAsExpr =
    range "span" assertions.TsAsExpr-span ∷ tree "expr" assertions.TsAsExpr-expr ∷
    tree "type_ann" assertions.TsAsExpr-type_ann ∷ []
fields_of_form kinds.TsSatisfiesExpr =
    range "span" assertions.TsSatisfiesExpr-span ∷ tree "expr" assertions.TsSatisfiesExpr-expr ∷
    tree "type_ann" assertions.TsSatisfiesExpr-type_ann ∷ []
fields_of_form kinds.TsConstAssertion =
    range "span" assertions.TsConstAssertion-span ∷ tree "expr" assertions.TsConstAssertion-expr ∷ []
fields_of_form kinds.TsNonNullExpr =
    range "span" assertions.TsNonNullExpr-span ∷ tree "expr" assertions.TsNonNullExpr-expr ∷ []
fields_of_form kinds.TsInstantiation =
    range "span" assertions.TsInstantiation-span ∷ tree "expr" assertions.TsInstantiation-expr ∷
    tree "type_args" assertions.TsInstantiation-type_args ∷ []
fields_of_form kinds.OptChainExpr =
    range "span" calls.OptChainExpr-span ∷ flag "optional" calls.OptChainExpr-optional ∷
    tree "base" calls.OptChainExpr-base ∷ []
fields_of_form kinds.Invalid = range "span" expressions.Invalid-span ∷ []
fields_of_form kinds.OptCall =
    range "span" calls.OptCall-span ∷ scope "ctxt" calls.OptCall-ctxt ∷ tree "callee" calls.OptCall-callee ∷
    tree "args" calls.OptCall-args ∷ tree "type_args" calls.OptCall-type_args ∷ []
fields_of_form kinds.ExprOrSpread =
    tree "spread" expressions.ExprOrSpread-spread ∷ tree "expr" expressions.ExprOrSpread-expr ∷ []
fields_of_form kinds.SpreadElement =
    range "dot3_token" properties.SpreadElement-dot3_token ∷ tree "expr" properties.SpreadElement-expr ∷ []
fields_of_form kinds.KeyValueProp =
    tree "key" properties.KeyValueProp-key ∷ tree "value" properties.KeyValueProp-value ∷ []
fields_of_form kinds.AssignProp =
    range "span" properties.AssignProp-span ∷ tree "key" properties.AssignProp-key ∷
    tree "value" properties.AssignProp-value ∷ []
fields_of_form kinds.GetterProp =
    range "span" properties.GetterProp-span ∷ tree "key" properties.GetterProp-key ∷
    tree "type_ann" properties.GetterProp-type_ann ∷ tree "body" properties.GetterProp-body ∷ []
fields_of_form kinds.SetterProp =
    range "span" properties.SetterProp-span ∷ tree "key" properties.SetterProp-key ∷
    tree "param" properties.SetterProp-param ∷ tree "body" properties.SetterProp-body ∷ []
fields_of_form kinds.MethodProp =
    tree "key" properties.MethodProp-key ∷ tree "function" properties.MethodProp-function ∷ []
fields_of_form kinds.ComputedPropName =
    range "span" properties.ComputedPropName-span ∷ tree "expr" properties.ComputedPropName-expr ∷ []
fields_of_form kinds.Super = range "span" calls.Super-span ∷ []
fields_of_form kinds.Import = range "span" calls.Import-span ∷ text "phase" calls.Import-phase ∷ []
fields_of_form kinds.ArrayPat =
    range "span" patterns.ArrayPat-span ∷ tree "elems" patterns.ArrayPat-elems ∷
    flag "optional" patterns.ArrayPat-optional ∷ tree "type_ann" patterns.ArrayPat-type_ann ∷ []
fields_of_form kinds.RestPat =
    range "span" patterns.RestPat-span ∷ range "dot3_token" patterns.RestPat-dot3_token ∷
    tree "arg" patterns.RestPat-arg ∷ tree "type_ann" patterns.RestPat-type_ann ∷ []
fields_of_form kinds.ObjectPat =
    range "span" patterns.ObjectPat-span ∷ tree "props" patterns.ObjectPat-props ∷
    flag "optional" patterns.ObjectPat-optional ∷ tree "type_ann" patterns.ObjectPat-type_ann ∷ []
fields_of_form kinds.AssignPat =
    range "span" patterns.AssignPat-span ∷ tree "left" patterns.AssignPat-left ∷ tree "right" patterns.AssignPat-right ∷
    []
fields_of_form kinds.KeyValuePatProp =
    tree "key" patterns.KeyValuePatProp-key ∷ tree "value" patterns.KeyValuePatProp-value ∷ []
fields_of_form kinds.AssignPatProp =
    range "span" patterns.AssignPatProp-span ∷ tree "key" patterns.AssignPatProp-key ∷
    tree "value" patterns.AssignPatProp-value ∷ []
fields_of_form kinds.Function =
    range "span" functions.Function-span ∷ tree "params" functions.Function-params ∷
    tree "decorators" functions.Function-decorators ∷ scope "ctxt" functions.Function-ctxt ∷
    tree "body" functions.Function-body ∷ flag "is_generator" functions.Function-is_generator ∷
    flag "is_async" functions.Function-is_async ∷ tree "type_params" functions.Function-type_params ∷
    tree "return_type" functions.Function-return_type ∷ []
fields_of_form kinds.Param =
    range "span" functions.Param-span ∷ tree "decorators" functions.Param-decorators ∷ tree "pat" functions.Param-pat ∷
    []
fields_of_form kinds.Class =
    range "span" classes.Class-span ∷ scope "ctxt" classes.Class-ctxt ∷ tree "decorators" classes.Class-decorators ∷
    tree "body" classes.Class-body ∷ tree "super_class" classes.Class-super_class ∷
    flag "is_abstract" classes.Class-is_abstract ∷ tree "type_params" classes.Class-type_params ∷
    tree "super_type_params" classes.Class-super_type_params ∷ tree "implements" classes.Class-implements ∷ []
fields_of_form kinds.Decorator = range "span" functions.Decorator-span ∷ tree "expr" functions.Decorator-expr ∷ []
fields_of_form kinds.Constructor =
    range "span" classes.Constructor-span ∷ scope "ctxt" classes.Constructor-ctxt ∷ tree "key" classes.Constructor-key ∷
    tree "params" classes.Constructor-params ∷ tree "body" classes.Constructor-body ∷
    tree "accessibility" classes.Constructor-accessibility ∷ flag "is_optional" classes.Constructor-is_optional ∷ []
fields_of_form kinds.ClassMethod =
    range "span" methods.ClassMethod-span ∷ tree "key" methods.ClassMethod-key ∷
    tree "function" methods.ClassMethod-function ∷ tree "kind" methods.ClassMethod-kind ∷
    flag "is_static" methods.ClassMethod-is_static ∷ tree "accessibility" methods.ClassMethod-accessibility ∷
    flag "is_abstract" methods.ClassMethod-is_abstract ∷ flag "is_optional" methods.ClassMethod-is_optional ∷
    flag "is_override" methods.ClassMethod-is_override ∷ []
fields_of_form kinds.PrivateMethod =
    range "span" methods.PrivateMethod-span ∷ tree "key" methods.PrivateMethod-key ∷
    tree "function" methods.PrivateMethod-function ∷ tree "kind" methods.PrivateMethod-kind ∷
    flag "is_static" methods.PrivateMethod-is_static ∷ tree "accessibility" methods.PrivateMethod-accessibility ∷
    flag "is_abstract" methods.PrivateMethod-is_abstract ∷ flag "is_optional" methods.PrivateMethod-is_optional ∷
    flag "is_override" methods.PrivateMethod-is_override ∷ []
fields_of_form kinds.ClassProp =
    range "span" fields.ClassProp-span ∷ tree "key" fields.ClassProp-key ∷ tree "value" fields.ClassProp-value ∷
    tree "type_ann" fields.ClassProp-type_ann ∷ flag "is_static" fields.ClassProp-is_static ∷
    tree "decorators" fields.ClassProp-decorators ∷ tree "accessibility" fields.ClassProp-accessibility ∷
    flag "is_abstract" fields.ClassProp-is_abstract ∷ flag "is_optional" fields.ClassProp-is_optional ∷
    flag "is_override" fields.ClassProp-is_override ∷ flag "readonly" fields.ClassProp-readonly ∷
    flag "declare" fields.ClassProp-declare ∷ flag "definite" fields.ClassProp-definite ∷ []
fields_of_form kinds.PrivateProp =
    range "span" fields.PrivateProp-span ∷ scope "ctxt" fields.PrivateProp-ctxt ∷ tree "key" fields.PrivateProp-key ∷
    tree "value" fields.PrivateProp-value ∷ tree "type_ann" fields.PrivateProp-type_ann ∷
    flag "is_static" fields.PrivateProp-is_static ∷ tree "decorators" fields.PrivateProp-decorators ∷
    tree "accessibility" fields.PrivateProp-accessibility ∷ flag "is_optional" fields.PrivateProp-is_optional ∷
    flag "is_override" fields.PrivateProp-is_override ∷ flag "readonly" fields.PrivateProp-readonly ∷
    flag "definite" fields.PrivateProp-definite ∷ []
fields_of_form kinds.TsIndexSignature =
    range "span" classes.TsIndexSignature-span ∷ tree "params" classes.TsIndexSignature-params ∷
    tree "type_ann" classes.TsIndexSignature-type_ann ∷ flag "readonly" classes.TsIndexSignature-readonly ∷
    flag "is_static" classes.TsIndexSignature-is_static ∷ []
fields_of_form kinds.StaticBlock = range "span" classes.StaticBlock-span ∷ tree "body" classes.StaticBlock-body ∷ []
fields_of_form kinds.AutoAccessor =
    range "span" fields.AutoAccessor-span ∷ tree "key" fields.AutoAccessor-key ∷
    tree "value" fields.AutoAccessor-value ∷ tree "type_ann" fields.AutoAccessor-type_ann ∷
    flag "is_static" fields.AutoAccessor-is_static ∷ tree "decorators" fields.AutoAccessor-decorators ∷
    tree "accessibility" fields.AutoAccessor-accessibility ∷ flag "is_abstract" fields.AutoAccessor-is_abstract ∷
    flag "is_override" fields.AutoAccessor-is_override ∷ flag "definite" fields.AutoAccessor-definite ∷ []
fields_of_form kinds.TsParamProp =
    range "span" classes.TsParamProp-span ∷ tree "decorators" classes.TsParamProp-decorators ∷
    tree "accessibility" classes.TsParamProp-accessibility ∷ flag "is_override" classes.TsParamProp-is_override ∷
    flag "readonly" classes.TsParamProp-readonly ∷ tree "param" classes.TsParamProp-param ∷ []
fields_of_form kinds.TsKeywordType = range "span" types.TsKeywordType-span ∷ tree "kind" types.TsKeywordType-kind ∷ []
fields_of_form kinds.TsThisType = range "span" types.TsThisType-span ∷ []
fields_of_form kinds.TsFnType =
    range "span" signatures.TsFnType-span ∷ tree "params" signatures.TsFnType-params ∷
    tree "type_params" signatures.TsFnType-type_params ∷ tree "type_ann" signatures.TsFnType-type_ann ∷
    flag "is_abstract" signatures.TsFnType-is_abstract ∷ []
fields_of_form kinds.TsConstructorType =
    range "span" signatures.TsConstructorType-span ∷ tree "params" signatures.TsConstructorType-params ∷
    tree "type_params" signatures.TsConstructorType-type_params ∷
    tree "type_ann" signatures.TsConstructorType-type_ann ∷
    flag "is_abstract" signatures.TsConstructorType-is_abstract ∷ []
fields_of_form kinds.TsTypeRef =
    range "span" types.TsTypeRef-span ∷ tree "type_name" types.TsTypeRef-type_name ∷
    tree "type_params" types.TsTypeRef-type_params ∷ []
fields_of_form kinds.TsTypeQuery =
    range "span" types.TsTypeQuery-span ∷ tree "expr_name" types.TsTypeQuery-expr_name ∷
    tree "type_args" types.TsTypeQuery-type_args ∷ []
fields_of_form kinds.TsTypeLit = range "span" types.TsTypeLit-span ∷ tree "members" types.TsTypeLit-members ∷ []
fields_of_form kinds.TsArrayType =
    range "span" types.TsArrayType-span ∷ tree "elem_type" types.TsArrayType-elem_type ∷ []
fields_of_form kinds.TsTupleType =
    range "span" types.TsTupleType-span ∷ tree "elem_types" types.TsTupleType-elem_types ∷ []
fields_of_form kinds.TsTupleElement =
    range "span" types.TsTupleElement-span ∷ tree "label" types.TsTupleElement-label ∷
    tree "ty" types.TsTupleElement-ty ∷ []
fields_of_form kinds.TsOptionalType =
    range "span" types.TsOptionalType-span ∷ tree "type_ann" types.TsOptionalType-type_ann ∷ []
fields_of_form kinds.TsRestType = range "span" types.TsRestType-span ∷ tree "type_ann" types.TsRestType-type_ann ∷ []
fields_of_form kinds.TsParenthesizedType =
    range "span" types.TsParenthesizedType-span ∷ tree "type_ann" types.TsParenthesizedType-type_ann ∷ []
fields_of_form kinds.TsUnionType = range "span" types.TsUnionType-span ∷ tree "types" types.TsUnionType-types ∷ []
fields_of_form kinds.TsIntersectionType =
    range "span" types.TsIntersectionType-span ∷ tree "types" types.TsIntersectionType-types ∷ []
fields_of_form kinds.TsConditionalType =
    range "span" type_operators.TsConditionalType-span ∷ tree "check_type" type_operators.TsConditionalType-check_type ∷
    tree "extends_type" type_operators.TsConditionalType-extends_type ∷
    tree "true_type" type_operators.TsConditionalType-true_type ∷
    tree "false_type" type_operators.TsConditionalType-false_type ∷ []
fields_of_form kinds.TsInferType =
    range "span" type_operators.TsInferType-span ∷ tree "type_param" type_operators.TsInferType-type_param ∷ []
fields_of_form kinds.TsTypeOperator =
    range "span" type_operators.TsTypeOperator-span ∷ tree "op" type_operators.TsTypeOperator-op ∷
    tree "type_ann" type_operators.TsTypeOperator-type_ann ∷ []
fields_of_form kinds.TsIndexedAccessType =
    range "span" type_operators.TsIndexedAccessType-span ∷ flag "readonly" type_operators.TsIndexedAccessType-readonly ∷
    tree "obj_type" type_operators.TsIndexedAccessType-obj_type ∷
    tree "index_type" type_operators.TsIndexedAccessType-index_type ∷ []
fields_of_form kinds.TsMappedType =
    range "span" type_operators.TsMappedType-span ∷ tree "readonly" type_operators.TsMappedType-readonly ∷
    tree "type_param" type_operators.TsMappedType-type_param ∷ tree "name_type" type_operators.TsMappedType-name_type ∷
    tree "optional" type_operators.TsMappedType-optional ∷ tree "type_ann" type_operators.TsMappedType-type_ann ∷ []
fields_of_form kinds.TsLitType = range "span" types.TsLitType-span ∷ tree "lit" types.TsLitType-lit ∷ []
fields_of_form kinds.TsTplLitType =
    range "span" types.TsTplLitType-span ∷ tree "types" types.TsTplLitType-types ∷
    tree "quasis" types.TsTplLitType-quasis ∷ []
fields_of_form kinds.TsTypePredicate =
    range "span" type_operators.TsTypePredicate-span ∷ flag "asserts" type_operators.TsTypePredicate-asserts ∷
    tree "param_name" type_operators.TsTypePredicate-param_name ∷
    tree "type_ann" type_operators.TsTypePredicate-type_ann ∷ []
fields_of_form kinds.TsImportType =
    range "span" types.TsImportType-span ∷ tree "arg" types.TsImportType-arg ∷
    tree "qualifier" types.TsImportType-qualifier ∷ tree "type_args" types.TsImportType-type_args ∷ []
fields_of_form kinds.TsQualifiedName =
    range "span" types.TsQualifiedName-span ∷ tree "left" types.TsQualifiedName-left ∷
    tree "right" types.TsQualifiedName-right ∷ []
fields_of_form kinds.TsCallSignatureDecl =
    range "span" signatures.TsCallSignatureDecl-span ∷ tree "params" signatures.TsCallSignatureDecl-params ∷
    tree "type_ann" signatures.TsCallSignatureDecl-type_ann ∷
    tree "type_params" signatures.TsCallSignatureDecl-type_params ∷ []
fields_of_form kinds.TsConstructSignatureDecl =
    range "span" signatures.TsConstructSignatureDecl-span ∷ tree "params" signatures.TsConstructSignatureDecl-params ∷
    tree "type_ann" signatures.TsConstructSignatureDecl-type_ann ∷
    tree "type_params" signatures.TsConstructSignatureDecl-type_params ∷ []
fields_of_form kinds.TsPropertySignature =
    range "span" signatures.TsPropertySignature-span ∷ tree "key" signatures.TsPropertySignature-key ∷
    flag "computed" signatures.TsPropertySignature-computed ∷ flag "readonly" signatures.TsPropertySignature-readonly ∷
    flag "optional" signatures.TsPropertySignature-optional ∷ tree "type_ann" signatures.TsPropertySignature-type_ann ∷
    []
fields_of_form kinds.TsGetterSignature =
    range "span" signatures.TsGetterSignature-span ∷ tree "key" signatures.TsGetterSignature-key ∷
    flag "computed" signatures.TsGetterSignature-computed ∷ tree "type_ann" signatures.TsGetterSignature-type_ann ∷ []
fields_of_form kinds.TsSetterSignature =
    range "span" signatures.TsSetterSignature-span ∷ tree "key" signatures.TsSetterSignature-key ∷
    flag "computed" signatures.TsSetterSignature-computed ∷ tree "params" signatures.TsSetterSignature-params ∷ []
fields_of_form kinds.TsMethodSignature =
    range "span" signatures.TsMethodSignature-span ∷ tree "key" signatures.TsMethodSignature-key ∷
    flag "computed" signatures.TsMethodSignature-computed ∷ flag "optional" signatures.TsMethodSignature-optional ∷
    tree "params" signatures.TsMethodSignature-params ∷ tree "type_ann" signatures.TsMethodSignature-type_ann ∷
    tree "type_params" signatures.TsMethodSignature-type_params ∷ []
fields_of_form kinds.TsTypeParam =
    range "span" type_params.TsTypeParam-span ∷ tree "name" type_params.TsTypeParam-name ∷
    flag "is_in" type_params.TsTypeParam-is_in ∷ flag "is_out" type_params.TsTypeParam-is_out ∷
    flag "is_const" type_params.TsTypeParam-is_const ∷ tree "constraint" type_params.TsTypeParam-constraint ∷
    tree "default" type_params.TsTypeParam-default ∷ []
fields_of_form kinds.TsTypeParamDecl =
    range "span" type_params.TsTypeParamDecl-span ∷ tree "params" type_params.TsTypeParamDecl-params ∷ []
fields_of_form kinds.TsTypeParamInstantiation =
    range "span" type_params.TsTypeParamInstantiation-span ∷ tree "params" type_params.TsTypeParamInstantiation-params ∷
    []
fields_of_form kinds.TsTypeAnn =
    range "span" type_params.TsTypeAnn-span ∷ tree "type_ann" type_params.TsTypeAnn-type_ann ∷ []
fields_of_form kinds.Leaf = []
fields_of_form kinds.List = []
fields_of_form kinds.TargetPat = []
fields_of_form kinds.PatExpr = []
