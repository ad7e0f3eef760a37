-- What is done with the items of a module, kind by kind. Of what no row names nothing is seen.
use Rattle.std.specs.Prelude.{Bool, true, false, if◌then◌else◌}
use Rattle.fast_check_tree_syntax.specs.declared.kind.Kind.{Kind}
use Rattle.fast_check_tree_syntax.specs.declared.kind.Kind.TheVariants as kinds
use Rattle.fast_check_tree_syntax.specs.declared.tree.Tree.{Tree}
use Rattle.fast_check_tree_syntax.specs.Shape.{◌is◌, kind_of}
use Rattle.fast_check_tree_forms_programs.specs.ModuleDecls.{ExportDecl-decl, ExportDefaultDecl-decl}
use Rattle.fast_check_tree_forms_programs.specs.ModuleDecls.{TsImportEqualsDecl-module_ref}
use Rattle.fast_check_tree_forms_statements.specs.Statements.{ExprStmt-expr}
use Rattle.fast_check_meaning_skeleton.specs.declared.rules.DeclRule.{DeclRule}
use Rattle.fast_check_meaning_skeleton.specs.declared.rules.DeclRule.TheVariants.{Variables, Function, Class, Standing}
use Rattle.fast_check_meaning_skeleton.specs.declared.rules.DeclRule.TheVariants.{Namespace, Using, NoDeclaration}
use Rattle.fast_check_meaning_signatures.specs.declared.fault.FaultKind.TheVariants.{UnsupportedRequire}
use Rattle.fast_check_meaning_signatures.specs.declared.fault.FaultKind.TheVariants.{UnsupportedTsExportAssignment}
use Rattle.fast_check_meaning_signatures.specs.declared.fault.FaultKind.TheVariants.{UnsupportedTsNamespaceExport}
use Rattle.fast_check_meaning_skeleton.specs.declared.rules.DefaultRule.TheVariants as defaults
use Rattle.fast_check_meaning_skeleton.specs.declared.rules.ImportExportRule.TheVariants as imports_exports
use Rattle.fast_check_meaning_skeleton.specs.declared.rules.ItemRule.{ItemRule}
use Rattle.fast_check_meaning_skeleton.specs.declared.rules.ItemRule.TheVariants.{Declared, Exported, ImportExport, Default, Refused}
use Rattle.fast_check_meaning_skeleton.specs.declared.rules.ItemRule.TheVariants.{Assigned, Silent}

-- what is done with a declaration of a kind
abbrev pub decl_rule : Kind → DeclRule
decl_rule kinds.VarDecl = Variables
decl_rule kinds.FnDecl = Function
decl_rule kinds.ClassDecl = Class
decl_rule kinds.TsInterfaceDecl = Standing
decl_rule kinds.TsTypeAliasDecl = Standing
decl_rule kinds.TsEnumDecl = Standing
decl_rule kinds.TsModuleDecl = Namespace
decl_rule kinds.UsingDecl = Using
decl_rule _ = NoDeclaration

-- what is done with an expression that is a statement, by its kind
abbrev pub expr_stmt_rule : Kind → ItemRule
expr_stmt_rule kinds.AssignExpr = Assigned
expr_stmt_rule _ = Silent

-- what is done with the default export of a declaration of a kind
abbrev pub default_rule : Kind → ItemRule
default_rule kinds.ClassExpr = Default defaults.Class
default_rule kinds.FnExpr = Default defaults.Function
default_rule kinds.TsInterfaceDecl = Default defaults.Interface
default_rule _ = Declared NoDeclaration

-- whether an import is `import x = require(..)`, and not `import x = A.B`
abbrev pub is_require : Tree → Bool
is_require item = kind_of (TsImportEqualsDecl-module_ref item) is kinds.TsExternalModuleRef

-- what is done with an item of a kind
abbrev pub rule_of_kind : Kind → Tree → ItemRule
rule_of_kind kinds.ExportDecl item = Exported (decl_rule (kind_of (ExportDecl-decl item)))
rule_of_kind kinds.ImportDecl item = ImportExport imports_exports.Import
rule_of_kind kinds.NamedExport item = ImportExport imports_exports.Export
rule_of_kind kinds.ExportAll item = ImportExport imports_exports.All
rule_of_kind kinds.TsImportEqualsDecl item = if is_require item then Refused UnsupportedRequire else ImportExport imports_exports.Alias
rule_of_kind kinds.TsExportAssignment item = Refused UnsupportedTsExportAssignment
rule_of_kind kinds.TsNamespaceExportDecl item = Refused UnsupportedTsNamespaceExport
rule_of_kind kinds.ExportDefaultExpr item = Default defaults.Value
rule_of_kind kinds.ExportDefaultDecl item = default_rule (kind_of (ExportDefaultDecl-decl item))
rule_of_kind kinds.ExprStmt item = expr_stmt_rule (kind_of (ExprStmt-expr item))
rule_of_kind kinds.BlockStmt item = Silent
rule_of_kind kinds.EmptyStmt item = Silent
rule_of_kind kinds.DebuggerStmt item = Silent
rule_of_kind kinds.WithStmt item = Silent
rule_of_kind kinds.ReturnStmt item = Silent
rule_of_kind kinds.LabeledStmt item = Silent
rule_of_kind kinds.BreakStmt item = Silent
rule_of_kind kinds.ContinueStmt item = Silent
rule_of_kind kinds.IfStmt item = Silent
rule_of_kind kinds.SwitchStmt item = Silent
rule_of_kind kinds.ThrowStmt item = Silent
rule_of_kind kinds.TryStmt item = Silent
rule_of_kind kinds.WhileStmt item = Silent
rule_of_kind kinds.DoWhileStmt item = Silent
rule_of_kind kinds.ForStmt item = Silent
rule_of_kind kinds.ForInStmt item = Silent
rule_of_kind kinds.ForOfStmt item = Silent
rule_of_kind kind item = Declared (decl_rule kind)

abbrev pub item_rule : Tree → ItemRule
item_rule item = rule_of_kind (kind_of item) item

-- whether an item is an assignment that is a statement
abbrev pub is_assigned : ItemRule → Bool
is_assigned Assigned = true
is_assigned _ = false

-- whether it declares something
abbrev pub declares : DeclRule → Bool
declares NoDeclaration = false
declares _ = true
