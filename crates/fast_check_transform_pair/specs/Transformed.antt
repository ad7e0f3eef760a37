-- What is promised of the answer to a module.
use Rattle.std.specs.Prelude.{◌≡◌, ◌↔◌, Bool, [], Result, IfOk, IsOk, IfErr}
use Rattle.std.specs.declared.alloc.Global.{Global}
use Rattle.std.specs.declared.vec.Vec.{Vec}
use Rattle.fast_check_transform_nodes.specs.Bindings.{bindings_of}
use Rattle.fast_check_tables_graph.specs.declared.graph.ModuleGraph.{ModuleGraph}
use Rattle.fast_check_tables_modules.specs.EsModule.{EsModule}
use Rattle.fast_check_tables_modules.specs.diagnostics.PublicRanges.{PublicRanges}
use Rattle.fast_check_tables_modules.specs.diagnostics.declared.diagnostics.FastCheckDiagnostic.{FastCheckDiagnostic}
use Rattle.fast_check_transform_module.specs.Transform as transform
use Rattle.fast_check_tables_diagnostics.specs.parsed_source.MediaType.{is_declaration}
use Rattle.fast_check_tables_diagnostics.specs.declared.parsed_source.tables.fast_check_module.FastCheckModule.{FastCheckModule}
use Rattle.fast_check_meaning_skeleton.specs.Grammar.{IsSkeleton}
use Rattle.fast_check_transform_module.specs.transform_faults.Diagnostics.{AreDiagnosticsOf, diagnosed}

-- a skeleton, or diagnostics
abbrev pub TransformResult : Type 0
TransformResult = Result FastCheckModule (Vec FastCheckDiagnostic Global)

-- It is what `transform` answers to the module with these public ranges: exactly where nothing is wrong its skeleton,
-- which stands in the grammar, with the comments that stay and the sources that it depends on; else the diagnostics of
-- its faults, or of the first alone.
pub record IsTransformed (graph : ModuleGraph) (info : EsModule) (public : PublicRanges) (first_alone : Bool)
    (answer : TransformResult) : Type 0 where
  pub ok : IsOk answer ↔ (transform.faults graph info public ≡ [])
  pub skeleton : IfOk answer (λ made. made.program ≡ transform.skeleton graph info public)
  pub grammar : IfOk answer (λ made. IsSkeleton (bindings_of info) (is_declaration info.source.media_type) made.program)
  pub comments : IfOk answer (λ made. made.comments ≡ transform.comments graph info public)
  pub sources : IfOk answer (λ made. made.module_info.sources.items ≡ transform.sources graph info public)
  pub faults : IfErr answer
      (λ diagnostics. AreDiagnosticsOf info (diagnosed first_alone (transform.faults graph info public))
      diagnostics.items)
