-- The answers of `transform`, as JSON.
use Rattle.std.specs.Prelude.{List, map, codes, Result, Ok, Err, Vec}
use Rattle.std.specs.declared.alloc.Global.{Global}
use Rattle.serde_json.specs.Data.{Data, boolean, string, array, object, no_members, member}
use Rattle.serde_json.specs.View.{items_of}
use Rattle.fast_check_tree_syntax.specs.declared.kind.Kind.TheVariants as kinds
use Rattle.fast_check_tree_syntax.specs.declared.tree.Tree.{Tree}
use Rattle.fast_check_tree_comments.specs.declared.comments.Comments.{Comments}
use Rattle.fast_check_read.specs.declared.schema.form.Form.TheVariants.{Struct}
use Rattle.fast_check_print.specs.Comments.{comments_data}
use Rattle.fast_check_print.specs.Pieces.{range_data, single}
use Rattle.fast_check_print.specs.Trees.{json_of}
use Rattle.fast_check_tables_diagnostics.specs.declared.diagnostics.FastCheckDiagnostic.{FastCheckDiagnostic}
use Rattle.fast_check_tables_diagnostics.specs.declared.parsed_source.tables.fast_check_module.FastCheckModule.{FastCheckModule}
use Rattle.fast_check_tables_diagnostics.specs.declared.parsed_source.tables.fast_check_module.StaticSource.{StaticSource}
use Rattle.fast_check_print.specs.Diagnostics.{diagnostics_array}

-- ---- a skeleton

-- an object of the members is_export, range, specifier and type_only
abbrev pub source_data : StaticSource → Data
source_data source =
    object (member (codes "is_export") (boolean source.is_export)
    (member (codes "range") (range_data source.range)
    (member (codes "specifier") (string source.specifier)
    (member (codes "type_only") (boolean source.type_only) no_members))))

-- an object of the member sources, an array
abbrev pub sources_data : List StaticSource → Data
sources_data sources = single (codes "sources") (array (items_of (map source_data sources)))

-- an object of the members comments, module_info and program, which is that of a module itself
abbrev pub module_data : Comments → List StaticSource → Tree → Data
module_data comments sources program =
    object (member (codes "comments") (comments_data comments)
    (member (codes "module_info") (sources_data sources)
    (member (codes "program") (json_of program (Struct kinds.Module)) no_members)))

-- ---- the answer

-- the skeleton, or the diagnostics in their order
abbrev pub skeleton_data : Comments → List StaticSource → Tree → Data
skeleton_data comments sources program = single (codes "Ok") (module_data comments sources program)

abbrev pub diagnostics_data : List FastCheckDiagnostic → Data
diagnostics_data ds = single (codes "Err") (diagnostics_array ds)

abbrev pub answer_data : Result FastCheckModule (Vec FastCheckDiagnostic Global) → Data
answer_data (Ok made) = skeleton_data made.comments made.module_info.sources.items made.program
answer_data (Err diagnostics) = diagnostics_data diagnostics.items
