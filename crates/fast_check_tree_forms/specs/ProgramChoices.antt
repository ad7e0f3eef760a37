-- Written by forms/write.py from forms/forms.txt.
-- Which item of a module a node is, and which form stands in an import or export.
-- Each choice goes by the kind of the node: `Other` stands for a kind of none of its forms.
use Rattle.fast_check_tree_syntax.specs.declared.kind.Kind.{Kind}
use Rattle.fast_check_tree_syntax.specs.declared.kind.Kind.TheVariants as kinds
use Rattle.fast_check_tree_forms.specs.StatementChoices.{stmt_of, if_stmt}
use Rattle.fast_check_tree_forms.specs.TypeChoices.{ts_entity_name_of, if_ts_entity_name}
use Rattle.fast_check_tree_forms.specs.declared.program_choices.Program.{Program}
use Rattle.fast_check_tree_forms.specs.declared.program_choices.ModuleDecl.{ModuleDecl}
use Rattle.fast_check_tree_forms.specs.declared.program_choices.ModuleItem.{ModuleItem}
use Rattle.fast_check_tree_forms.specs.declared.program_choices.ImportSpecifier.{ImportSpecifier}
use Rattle.fast_check_tree_forms.specs.declared.program_choices.ExportSpecifier.{ExportSpecifier}
use Rattle.fast_check_tree_forms.specs.declared.program_choices.DefaultDecl.{DefaultDecl}
use Rattle.fast_check_tree_forms.specs.declared.program_choices.TsModuleRef.{TsModuleRef}

-- A whole file.
abbrev pub program_of : Kind → Program
program_of kinds.Module = Program.Module
program_of kinds.Script = Program.Script
program_of _ = Program.Other

-- An import or an export.
abbrev pub module_decl_of : Kind → ModuleDecl
module_decl_of kinds.ImportDecl = ModuleDecl.Import
module_decl_of kinds.ExportDecl = ModuleDecl.ExportDecl
module_decl_of kinds.NamedExport = ModuleDecl.ExportNamed
module_decl_of kinds.ExportDefaultDecl = ModuleDecl.ExportDefaultDecl
module_decl_of kinds.ExportDefaultExpr = ModuleDecl.ExportDefaultExpr
module_decl_of kinds.ExportAll = ModuleDecl.ExportAll
module_decl_of kinds.TsImportEqualsDecl = ModuleDecl.TsImportEquals
module_decl_of kinds.TsExportAssignment = ModuleDecl.TsExportAssignment
module_decl_of kinds.TsNamespaceExportDecl = ModuleDecl.TsNamespaceExport
module_decl_of _ = ModuleDecl.Other

-- the first where it is one of these, else the second
abbrev pub if_module_decl : {A : Type 0} → ModuleDecl → A → A → A
if_module_decl ModuleDecl.Other one other = other
if_module_decl _ one other = one

-- What stands at the top of a module.
abbrev pub module_item_of : Kind → ModuleItem
module_item_of kind =
    if_module_decl (module_decl_of kind) ModuleItem.ModuleDecl
    (if_stmt (stmt_of kind) ModuleItem.Stmt ModuleItem.Other)

-- A name that an import brings.
abbrev pub import_specifier_of : Kind → ImportSpecifier
import_specifier_of kinds.ImportNamedSpecifier = ImportSpecifier.Named
import_specifier_of kinds.ImportDefaultSpecifier = ImportSpecifier.Default
import_specifier_of kinds.ImportStarAsSpecifier = ImportSpecifier.Namespace
import_specifier_of _ = ImportSpecifier.Other

-- A name that an export gives.
abbrev pub export_specifier_of : Kind → ExportSpecifier
export_specifier_of kinds.ExportNamespaceSpecifier = ExportSpecifier.Namespace
export_specifier_of kinds.ExportDefaultSpecifier = ExportSpecifier.Default
export_specifier_of kinds.ExportNamedSpecifier = ExportSpecifier.Named
export_specifier_of _ = ExportSpecifier.Other

-- A declaration behind `export default`.
abbrev pub default_decl_of : Kind → DefaultDecl
default_decl_of kinds.ClassExpr = DefaultDecl.Class
default_decl_of kinds.FnExpr = DefaultDecl.Fn
default_decl_of kinds.TsInterfaceDecl = DefaultDecl.TsInterfaceDecl
default_decl_of _ = DefaultDecl.Other

-- What stands behind `import id =`.
abbrev pub ts_module_ref_of : Kind → TsModuleRef
ts_module_ref_of kinds.TsExternalModuleRef = TsModuleRef.TsExternalModuleRef
ts_module_ref_of kind = if_ts_entity_name (ts_entity_name_of kind) TsModuleRef.TsEntityName TsModuleRef.Other
