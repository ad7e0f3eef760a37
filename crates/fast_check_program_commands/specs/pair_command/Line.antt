-- The line that answers two modules.
use Rattle.std.specs.Prelude.{◌≡◌, ℕ, List, Bool, Ok}
use Rattle.serde_json.specs.Data.{Data}
use Rattle.fast_check_tables_graph.specs.declared.graph.ModuleGraph.{ModuleGraph}
use Rattle.fast_check_tables_modules.specs.EsModule.{EsModule}
use Rattle.fast_check_tables_modules.specs.diagnostics.PublicRanges.{PublicRanges}
use Rattle.fast_check_print.specs.Answer.{answer_data}
use Rattle.fast_check_print.specs.Pieces.{pair_data}
use Rattle.fast_check_program_transform.specs.Line.{line_of_data}
use Rattle.fast_check_transform_pair.specs.Transformed.{TransformResult, IsTransformed}

-- both answers as an array of two, the first module's first
abbrev pub answers_data : TransformResult → TransformResult → Data
answers_data first second = pair_data (answer_data first) (answer_data second)

-- 0 where both are skeletons, else 1
abbrev pub status_of : TransformResult → TransformResult → ℕ
status_of (Ok m) (Ok n) = 0
status_of _ _ = 1

-- the line with its status is that of what `transform` answers to each
pub record IsPairAnswer (graph : ModuleGraph) (a : EsModule) (ranges_a : PublicRanges) (b : EsModule)
    (ranges_b : PublicRanges) (first_alone : Bool)
    (line : List ℕ) (status : ℕ) : Type 0 where
  pub first : TransformResult
  pub second : TransformResult
  pub is_first : IsTransformed graph a ranges_a first_alone first
  pub is_second : IsTransformed graph b ranges_b first_alone second
  pub text : line ≡ line_of_data (answers_data first second)
  pub status_is : status ≡ status_of first second
