-- What is seen of imports and of exports of names, which lead to other modules or to other names.
use Rattle.std.specs.Prelude.{ℕ, Bool, Option, Some, None, List, [], ◌∷◌, if◌then◌else◌}
use Rattle.std.specs.List.{filter}
use Rattle.fast_check_tree_syntax.specs.declared.tree.Tree.{Tree, Absent}
use Rattle.fast_check_tree_syntax.specs.Shape.{parts, is_absent, list}
use Rattle.fast_check_tree_forms_programs.specs.ModuleDecls.{ImportDecl-span, ImportDecl-specifiers, ImportDecl-src}
use Rattle.fast_check_tree_forms_programs.specs.ModuleDecls.{ImportDecl-type_only, ImportDecl-with, ImportDecl-phase}
use Rattle.fast_check_tree_forms_programs.specs.ModuleDecls.{NamedExport-span, NamedExport-specifiers, NamedExport-src}
use Rattle.fast_check_tree_forms_programs.specs.ModuleDecls.{NamedExport-type_only, NamedExport-with, ExportAll-span}
use Rattle.fast_check_tree_forms_programs.specs.ModuleDecls.{ExportAll-src, ExportAll-type_only, ExportAll-with}
use Rattle.fast_check_tree_forms_programs.specs.ModuleDecls.{TsImportEqualsDecl-span, import_decl, named_export, export_all}
use Rattle.fast_check_tree_forms_programs.specs.Literals.{Str-span, Str-value, str}
use Rattle.fast_check_tree_helpers.specs.ranges.Ranges.{range_of_node}
use Rattle.fast_check_meaning_signatures.specs.Seen.{Seen, written}
use Rattle.fast_check_meaning_skeleton.specs.declared.rules.ImportExportRule.{ImportExportRule}
use Rattle.fast_check_meaning_skeleton.specs.declared.rules.ImportExportRule.TheVariants.{Import, Export, All, Alias}
use Rattle.fast_check_meaning_skeleton.specs.ModuleFacts.{ModuleFacts}

-- a specifier is public by its own range
abbrev pub is_public_specifier : ModuleFacts → Tree → Bool
is_public_specifier facts specifier = facts.is_public (range_of_node specifier)

abbrev pub public_specifiers : ModuleFacts → Tree → List Tree
public_specifiers facts specifiers = filter (is_public_specifier facts) (parts specifiers)

-- a source, by the text that stands for it, if there is another one; the text as it was written goes then
abbrev pub source_of : Tree → Option (List ℕ) → Tree
source_of src None = src
source_of src (Some text) = str (Str-span src) text Absent

-- the source of an import or an export in a skeleton; an export of own names has none
abbrev pub answered_source : ModuleFacts → Tree → Tree
answered_source facts src = if is_absent src then src else source_of src (facts.relative (Str-value src))

-- what has specifiers stays with those that are public, and goes where none is
abbrev pub with_specifiers : (List Tree → Tree) → List Tree → List Seen
with_specifiers make [] = []
with_specifiers make (s ∷ ss) = written (make (s ∷ ss)) ∷ []

abbrev pub import_with : ModuleFacts → Tree → List Tree → Tree
import_with facts t specifiers =
    import_decl (ImportDecl-span t) (list specifiers) (answered_source facts (ImportDecl-src t))
    (ImportDecl-type_only t) (ImportDecl-with t)
    (ImportDecl-phase t)

abbrev pub export_with : ModuleFacts → Tree → List Tree → Tree
export_with facts t specifiers =
    named_export (NamedExport-span t) (list specifiers) (answered_source facts (NamedExport-src t))
    (NamedExport-type_only t) (NamedExport-with t)

-- `export * from source`
abbrev pub all_exported : ModuleFacts → Tree → Tree
all_exported facts t = export_all (ExportAll-span t) (answered_source facts (ExportAll-src t)) (ExportAll-type_only t)
    (ExportAll-with t)

-- an import or an export of names, `export *` or `import A = B.C`, by which of them it is
abbrev pub import_export_seen : ModuleFacts → Tree → ImportExportRule → List Seen
import_export_seen facts t Import = with_specifiers (import_with facts t) (public_specifiers facts (ImportDecl-specifiers t))
import_export_seen facts t Export = with_specifiers (export_with facts t) (public_specifiers facts (NamedExport-specifiers t))
import_export_seen facts t All = if facts.is_public (ExportAll-span t) then written (all_exported facts t) ∷ [] else []
import_export_seen facts t Alias = if facts.is_public (TsImportEqualsDecl-span t) then written t ∷ [] else []
