-- Written by forms/write.py from forms/forms.txt.
-- Imports and exports.
-- Each form has its fields by their names, what it holds once it reads a node, and the node of its fields.
use Rattle.std.specs.Prelude.{◌≡◌, Bool, ℕ, List, [], ◌∷◌}
use Rattle.std.specs.Borrow.{Bor}
use Rattle.fast_check_tree_syntax.specs.declared.kind.Kind.TheVariants as kinds
use Rattle.fast_check_tree_syntax.specs.declared.part.Part.{Part}
use Rattle.fast_check_tree_syntax.specs.declared.source.SourceRange.{SourceRange}
use Rattle.fast_check_tree_syntax.specs.declared.tree.Tree.{Tree, Range, Flag, Text}
use Rattle.fast_check_tree_syntax.specs.Part.{seen}
use Rattle.fast_check_tree_syntax.specs.Shape.{node, part, range_of, text_of, flag_of}
use Rattle.fast_check_tree_forms_programs.specs.declared.module_decls.ImportDecl.{ImportDecl}
use Rattle.fast_check_tree_forms_programs.specs.declared.module_decls.ImportNamedSpecifier.{ImportNamedSpecifier}
use Rattle.fast_check_tree_forms_programs.specs.declared.module_decls.ImportDefaultSpecifier.{ImportDefaultSpecifier}
use Rattle.fast_check_tree_forms_programs.specs.declared.module_decls.ImportStarAsSpecifier.{ImportStarAsSpecifier}
use Rattle.fast_check_tree_forms_programs.specs.declared.module_decls.TsImportEqualsDecl.{TsImportEqualsDecl}
use Rattle.fast_check_tree_forms_programs.specs.declared.module_decls.TsExternalModuleRef.{TsExternalModuleRef}
use Rattle.fast_check_tree_forms_programs.specs.declared.module_decls.ExportDecl.{ExportDecl}
use Rattle.fast_check_tree_forms_programs.specs.declared.module_decls.NamedExport.{NamedExport}
use Rattle.fast_check_tree_forms_programs.specs.declared.module_decls.ExportNamespaceSpecifier.{ExportNamespaceSpecifier}
use Rattle.fast_check_tree_forms_programs.specs.declared.module_decls.ExportDefaultSpecifier.{ExportDefaultSpecifier}
use Rattle.fast_check_tree_forms_programs.specs.declared.module_decls.ExportNamedSpecifier.{ExportNamedSpecifier}
use Rattle.fast_check_tree_forms_programs.specs.declared.module_decls.ExportDefaultDecl.{ExportDefaultDecl}
use Rattle.fast_check_tree_forms_programs.specs.declared.module_decls.ExportDefaultExpr.{ExportDefaultExpr}
use Rattle.fast_check_tree_forms_programs.specs.declared.module_decls.ExportAll.{ExportAll}
use Rattle.fast_check_tree_forms_programs.specs.declared.module_decls.TsExportAssignment.{TsExportAssignment}
use Rattle.fast_check_tree_forms_programs.specs.declared.module_decls.TsNamespaceExportDecl.{TsNamespaceExportDecl}

-- `import specifiers from src with with`.
abbrev pub ImportDecl-span : Tree → SourceRange
ImportDecl-span t = range_of (part 0 t)

abbrev pub ImportDecl-specifiers : Tree → Tree
ImportDecl-specifiers t = part 1 t

abbrev pub ImportDecl-src : Tree → Tree
ImportDecl-src t = part 2 t

abbrev pub ImportDecl-type_only : Tree → Bool
ImportDecl-type_only t = flag_of (part 3 t)

abbrev pub ImportDecl-with : Tree → Tree
ImportDecl-with t = part 4 t

abbrev pub ImportDecl-phase : Tree → List ℕ
ImportDecl-phase t = text_of (part 5 t)

pub record ReadsImportDecl (form : ImportDecl Part (Bor (List ℕ))) (t : Tree) : Type 0 where
  pub span : form.span ≡ ImportDecl-span t
  pub specifiers : seen form.specifiers ≡ ImportDecl-specifiers t
  pub src : seen form.src ≡ ImportDecl-src t
  pub type_only : form.type_only ≡ ImportDecl-type_only t
  pub with : seen form.with ≡ ImportDecl-with t
  pub phase : form.phase.now ≡ ImportDecl-phase t

abbrev pub import_decl : SourceRange → Tree → Tree → Bool → Tree → List ℕ → Tree
import_decl span specifiers src type_only with phase =
    node kinds.ImportDecl (Range span ∷ specifiers ∷ src ∷ Flag type_only ∷ with ∷ Text phase ∷ [])

-- In the braces of an import: `imported as local`.
abbrev pub ImportNamedSpecifier-span : Tree → SourceRange
ImportNamedSpecifier-span t = range_of (part 0 t)

abbrev pub ImportNamedSpecifier-local : Tree → Tree
ImportNamedSpecifier-local t = part 1 t

abbrev pub ImportNamedSpecifier-imported : Tree → Tree
ImportNamedSpecifier-imported t = part 2 t

abbrev pub ImportNamedSpecifier-is_type_only : Tree → Bool
ImportNamedSpecifier-is_type_only t = flag_of (part 3 t)

pub record ReadsImportNamedSpecifier (form : ImportNamedSpecifier Part) (t : Tree) : Type 0 where
  pub span : form.span ≡ ImportNamedSpecifier-span t
  pub local : seen form.local ≡ ImportNamedSpecifier-local t
  pub imported : seen form.imported ≡ ImportNamedSpecifier-imported t
  pub is_type_only : form.is_type_only ≡ ImportNamedSpecifier-is_type_only t

abbrev pub import_named_specifier : SourceRange → Tree → Tree → Bool → Tree
import_named_specifier span local imported is_type_only =
    node kinds.ImportNamedSpecifier (Range span ∷ local ∷ imported ∷ Flag is_type_only ∷ [])

-- `import local from ..`.
abbrev pub ImportDefaultSpecifier-span : Tree → SourceRange
ImportDefaultSpecifier-span t = range_of (part 0 t)

abbrev pub ImportDefaultSpecifier-local : Tree → Tree
ImportDefaultSpecifier-local t = part 1 t

pub record ReadsImportDefaultSpecifier (form : ImportDefaultSpecifier Part) (t : Tree) : Type 0 where
  pub span : form.span ≡ ImportDefaultSpecifier-span t
  pub local : seen form.local ≡ ImportDefaultSpecifier-local t

abbrev pub import_default_specifier : SourceRange → Tree → Tree
import_default_specifier span local = node kinds.ImportDefaultSpecifier (Range span ∷ local ∷ [])

-- `import * as local from ..`.
abbrev pub ImportStarAsSpecifier-span : Tree → SourceRange
ImportStarAsSpecifier-span t = range_of (part 0 t)

abbrev pub ImportStarAsSpecifier-local : Tree → Tree
ImportStarAsSpecifier-local t = part 1 t

pub record ReadsImportStarAsSpecifier (form : ImportStarAsSpecifier Part) (t : Tree) : Type 0 where
  pub span : form.span ≡ ImportStarAsSpecifier-span t
  pub local : seen form.local ≡ ImportStarAsSpecifier-local t

abbrev pub import_star_as_specifier : SourceRange → Tree → Tree
import_star_as_specifier span local = node kinds.ImportStarAsSpecifier (Range span ∷ local ∷ [])

-- `import id = module_ref`.
abbrev pub TsImportEqualsDecl-span : Tree → SourceRange
TsImportEqualsDecl-span t = range_of (part 0 t)

abbrev pub TsImportEqualsDecl-is_export : Tree → Bool
TsImportEqualsDecl-is_export t = flag_of (part 1 t)

abbrev pub TsImportEqualsDecl-is_type_only : Tree → Bool
TsImportEqualsDecl-is_type_only t = flag_of (part 2 t)

abbrev pub TsImportEqualsDecl-id : Tree → Tree
TsImportEqualsDecl-id t = part 3 t

abbrev pub TsImportEqualsDecl-module_ref : Tree → Tree
TsImportEqualsDecl-module_ref t = part 4 t

pub record ReadsTsImportEqualsDecl (form : TsImportEqualsDecl Part) (t : Tree) : Type 0 where
  pub span : form.span ≡ TsImportEqualsDecl-span t
  pub is_export : form.is_export ≡ TsImportEqualsDecl-is_export t
  pub is_type_only : form.is_type_only ≡ TsImportEqualsDecl-is_type_only t
  pub id : seen form.id ≡ TsImportEqualsDecl-id t
  pub module_ref : seen form.module_ref ≡ TsImportEqualsDecl-module_ref t

abbrev pub ts_import_equals_decl : SourceRange → Bool → Bool → Tree → Tree → Tree
ts_import_equals_decl span is_export is_type_only id module_ref =
    node kinds.TsImportEqualsDecl (Range span ∷ Flag is_export ∷ Flag is_type_only ∷ id ∷ module_ref ∷ [])

-- `require(expr)`, behind `import id =`.
abbrev pub TsExternalModuleRef-span : Tree → SourceRange
TsExternalModuleRef-span t = range_of (part 0 t)

abbrev pub TsExternalModuleRef-expr : Tree → Tree
TsExternalModuleRef-expr t = part 1 t

pub record ReadsTsExternalModuleRef (form : TsExternalModuleRef Part) (t : Tree) : Type 0 where
  pub span : form.span ≡ TsExternalModuleRef-span t
  pub expr : seen form.expr ≡ TsExternalModuleRef-expr t

abbrev pub ts_external_module_ref : SourceRange → Tree → Tree
ts_external_module_ref span expr = node kinds.TsExternalModuleRef (Range span ∷ expr ∷ [])

-- `export decl`.
abbrev pub ExportDecl-span : Tree → SourceRange
ExportDecl-span t = range_of (part 0 t)

abbrev pub ExportDecl-decl : Tree → Tree
ExportDecl-decl t = part 1 t

pub record ReadsExportDecl (form : ExportDecl Part) (t : Tree) : Type 0 where
  pub span : form.span ≡ ExportDecl-span t
  pub decl : seen form.decl ≡ ExportDecl-decl t

abbrev pub export_decl : SourceRange → Tree → Tree
export_decl span decl = node kinds.ExportDecl (Range span ∷ decl ∷ [])

-- `export { specifiers } from src with with`.
abbrev pub NamedExport-span : Tree → SourceRange
NamedExport-span t = range_of (part 0 t)

abbrev pub NamedExport-specifiers : Tree → Tree
NamedExport-specifiers t = part 1 t

abbrev pub NamedExport-src : Tree → Tree
NamedExport-src t = part 2 t

abbrev pub NamedExport-type_only : Tree → Bool
NamedExport-type_only t = flag_of (part 3 t)

abbrev pub NamedExport-with : Tree → Tree
NamedExport-with t = part 4 t

pub record ReadsNamedExport (form : NamedExport Part) (t : Tree) : Type 0 where
  pub span : form.span ≡ NamedExport-span t
  pub specifiers : seen form.specifiers ≡ NamedExport-specifiers t
  pub src : seen form.src ≡ NamedExport-src t
  pub type_only : form.type_only ≡ NamedExport-type_only t
  pub with : seen form.with ≡ NamedExport-with t

abbrev pub named_export : SourceRange → Tree → Tree → Bool → Tree → Tree
named_export span specifiers src type_only with =
    node kinds.NamedExport (Range span ∷ specifiers ∷ src ∷ Flag type_only ∷ with ∷ [])

-- `export * as name from ..`.
abbrev pub ExportNamespaceSpecifier-span : Tree → SourceRange
ExportNamespaceSpecifier-span t = range_of (part 0 t)

abbrev pub ExportNamespaceSpecifier-name : Tree → Tree
ExportNamespaceSpecifier-name t = part 1 t

pub record ReadsExportNamespaceSpecifier (form : ExportNamespaceSpecifier Part) (t : Tree) : Type 0 where
  pub span : form.span ≡ ExportNamespaceSpecifier-span t
  pub name : seen form.name ≡ ExportNamespaceSpecifier-name t

abbrev pub export_namespace_specifier : SourceRange → Tree → Tree
export_namespace_specifier span name = node kinds.ExportNamespaceSpecifier (Range span ∷ name ∷ [])

-- `export exported from ..`.
abbrev pub ExportDefaultSpecifier-exported : Tree → Tree
ExportDefaultSpecifier-exported t = part 0 t

pub record ReadsExportDefaultSpecifier (form : ExportDefaultSpecifier Part) (t : Tree) : Type 0 where
  pub exported : seen form.exported ≡ ExportDefaultSpecifier-exported t

abbrev pub export_default_specifier : Tree → Tree
export_default_specifier exported = node kinds.ExportDefaultSpecifier (exported ∷ [])

-- In the braces of an export: `orig as exported`.
abbrev pub ExportNamedSpecifier-span : Tree → SourceRange
ExportNamedSpecifier-span t = range_of (part 0 t)

abbrev pub ExportNamedSpecifier-orig : Tree → Tree
ExportNamedSpecifier-orig t = part 1 t

abbrev pub ExportNamedSpecifier-exported : Tree → Tree
ExportNamedSpecifier-exported t = part 2 t

abbrev pub ExportNamedSpecifier-is_type_only : Tree → Bool
ExportNamedSpecifier-is_type_only t = flag_of (part 3 t)

pub record ReadsExportNamedSpecifier (form : ExportNamedSpecifier Part) (t : Tree) : Type 0 where
  pub span : form.span ≡ ExportNamedSpecifier-span t
  pub orig : seen form.orig ≡ ExportNamedSpecifier-orig t
  pub exported : seen form.exported ≡ ExportNamedSpecifier-exported t
  pub is_type_only : form.is_type_only ≡ ExportNamedSpecifier-is_type_only t

abbrev pub export_named_specifier : SourceRange → Tree → Tree → Bool → Tree
export_named_specifier span orig exported is_type_only =
    node kinds.ExportNamedSpecifier (Range span ∷ orig ∷ exported ∷ Flag is_type_only ∷ [])

-- `export default decl`, of a class, a function or an interface.
abbrev pub ExportDefaultDecl-span : Tree → SourceRange
ExportDefaultDecl-span t = range_of (part 0 t)

abbrev pub ExportDefaultDecl-decl : Tree → Tree
ExportDefaultDecl-decl t = part 1 t

pub record ReadsExportDefaultDecl (form : ExportDefaultDecl Part) (t : Tree) : Type 0 where
  pub span : form.span ≡ ExportDefaultDecl-span t
  pub decl : seen form.decl ≡ ExportDefaultDecl-decl t

abbrev pub export_default_decl : SourceRange → Tree → Tree
export_default_decl span decl = node kinds.ExportDefaultDecl (Range span ∷ decl ∷ [])

-- `export default expr`.
abbrev pub ExportDefaultExpr-span : Tree → SourceRange
ExportDefaultExpr-span t = range_of (part 0 t)

abbrev pub ExportDefaultExpr-expr : Tree → Tree
ExportDefaultExpr-expr t = part 1 t

pub record ReadsExportDefaultExpr (form : ExportDefaultExpr Part) (t : Tree) : Type 0 where
  pub span : form.span ≡ ExportDefaultExpr-span t
  pub expr : seen form.expr ≡ ExportDefaultExpr-expr t

abbrev pub export_default_expr : SourceRange → Tree → Tree
export_default_expr span expr = node kinds.ExportDefaultExpr (Range span ∷ expr ∷ [])

-- `export * from src with with`.
abbrev pub ExportAll-span : Tree → SourceRange
ExportAll-span t = range_of (part 0 t)

abbrev pub ExportAll-src : Tree → Tree
ExportAll-src t = part 1 t

abbrev pub ExportAll-type_only : Tree → Bool
ExportAll-type_only t = flag_of (part 2 t)

abbrev pub ExportAll-with : Tree → Tree
ExportAll-with t = part 3 t

pub record ReadsExportAll (form : ExportAll Part) (t : Tree) : Type 0 where
  pub span : form.span ≡ ExportAll-span t
  pub src : seen form.src ≡ ExportAll-src t
  pub type_only : form.type_only ≡ ExportAll-type_only t
  pub with : seen form.with ≡ ExportAll-with t

abbrev pub export_all : SourceRange → Tree → Bool → Tree → Tree
export_all span src type_only with = node kinds.ExportAll (Range span ∷ src ∷ Flag type_only ∷ with ∷ [])

-- `export = expr`.
abbrev pub TsExportAssignment-span : Tree → SourceRange
TsExportAssignment-span t = range_of (part 0 t)

abbrev pub TsExportAssignment-expr : Tree → Tree
TsExportAssignment-expr t = part 1 t

pub record ReadsTsExportAssignment (form : TsExportAssignment Part) (t : Tree) : Type 0 where
  pub span : form.span ≡ TsExportAssignment-span t
  pub expr : seen form.expr ≡ TsExportAssignment-expr t

abbrev pub ts_export_assignment : SourceRange → Tree → Tree
ts_export_assignment span expr = node kinds.TsExportAssignment (Range span ∷ expr ∷ [])

-- `export as namespace id`.
abbrev pub TsNamespaceExportDecl-span : Tree → SourceRange
TsNamespaceExportDecl-span t = range_of (part 0 t)

abbrev pub TsNamespaceExportDecl-id : Tree → Tree
TsNamespaceExportDecl-id t = part 1 t

pub record ReadsTsNamespaceExportDecl (form : TsNamespaceExportDecl Part) (t : Tree) : Type 0 where
  pub span : form.span ≡ TsNamespaceExportDecl-span t
  pub id : seen form.id ≡ TsNamespaceExportDecl-id t

abbrev pub ts_namespace_export_decl : SourceRange → Tree → Tree
ts_namespace_export_decl span id = node kinds.TsNamespaceExportDecl (Range span ∷ id ∷ [])
