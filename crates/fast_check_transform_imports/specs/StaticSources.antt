-- What a skeleton depends on: the sources of its imports, and of its exports from other modules.
use Rattle.std.specs.Prelude.{Bool, true, false, Option, Some, None, List, [], ◌∷◌, if◌then◌else◌}
use Rattle.std.specs.List.{flat_map}
use Rattle.fast_check_tree_syntax.specs.declared.kind.Kind.{Kind}
use Rattle.fast_check_tree_syntax.specs.declared.kind.Kind.TheVariants as kinds
use Rattle.fast_check_tree_syntax.specs.declared.tree.Tree.{Tree}
use Rattle.fast_check_tree_syntax.specs.Shape.{kind_of, parts, is_absent}
use Rattle.fast_check_tree_forms_programs.specs.Literals.{Str-span, Str-value}
use Rattle.fast_check_tree_forms_programs.specs.ModuleDecls.{ImportDecl-src, ImportDecl-type_only, NamedExport-src}
use Rattle.fast_check_tree_forms_programs.specs.ModuleDecls.{NamedExport-type_only, ExportAll-src, ExportAll-type_only}
use Rattle.fast_check_tree_forms_programs.specs.Programs.{Module-body}
use Rattle.fast_check_tables_diagnostics.specs.declared.parsed_source.tables.fast_check_module.StaticSource.{StaticSource}

abbrev pub as_sources : Option StaticSource → List StaticSource
as_sources (Some s) = s ∷ []
as_sources None = []

-- the source of an import or an export, by its literal: the text that it means, and its range
abbrev pub source_of : Bool → Bool → Tree → List StaticSource
source_of is_export type_only src =
    if is_absent src then []
    else record { specifier = Str-value src; range = Str-span src; is_export = is_export; type_only = type_only } ∷ []

abbrev pub source_by_kind : Kind → Tree → List StaticSource
source_by_kind kinds.ImportDecl t = source_of false (ImportDecl-type_only t) (ImportDecl-src t)
source_by_kind kinds.NamedExport t = source_of true (NamedExport-type_only t) (NamedExport-src t)
source_by_kind kinds.ExportAll t = source_of true (ExportAll-type_only t) (ExportAll-src t)
source_by_kind _ t = []

-- of an import, of an export of names from another module, or of an export of all
abbrev pub item_source : Tree → List StaticSource
item_source t = source_by_kind (kind_of t) t

-- of the items of a module, in order
abbrev pub static_sources : Tree → List StaticSource
static_sources program = flat_map item_source (parts (Module-body program))
