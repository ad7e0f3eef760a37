-- The line that answers a request.
use Rattle.std.specs.Prelude.{◌≡◌, ◌≢◌, ℕ, List, [], ◌++◌, Bool, ◌⊎◌}
use Rattle.serde_json.specs.Data.{Data}
use Rattle.serde_json.specs.Written.{compact_text}
use Rattle.fast_check_tables_modules.specs.diagnostics.declared.diagnostics.FastCheckDiagnostic.{FastCheckDiagnostic}
use Rattle.fast_check_tables_graph.specs.declared.graph.ModuleGraph.{ModuleGraph}
use Rattle.fast_check_tables_modules.specs.EsModule.{EsModule}
use Rattle.fast_check_tables_modules.specs.diagnostics.PublicRanges.{PublicRanges}
use Rattle.fast_check_transform_module.specs.Transform.{skeleton, comments, sources, faults}
use Rattle.fast_check_transform_module.specs.transform_faults.Diagnostics.{AreDiagnosticsOf, diagnosed}
use Rattle.fast_check_program_requests.specs.Refusal.{line_end}
use Rattle.fast_check_print.specs.Answer.{skeleton_data, diagnostics_data}

-- a line of compact JSON
abbrev pub line_of_data : Data → List ℕ
line_of_data value = compact_text value ++ line_end

-- the line is the skeleton of a module without faults
pub record IsSkeletonLine (graph : ModuleGraph) (info : EsModule) (public : PublicRanges) (line : List ℕ) : Type 0 where
  pub no_faults : faults graph info public ≡ []
  pub text : line ≡ line_of_data
      (skeleton_data (comments graph info public) (sources graph info public) (skeleton graph info public))

-- the line is the diagnostics of a module with faults: of all, or of the first alone
pub record IsFaultsLine (graph : ModuleGraph) (info : EsModule) (public : PublicRanges) (first : Bool)
    (line : List ℕ) : Type 0 where
  pub diagnostics : List FastCheckDiagnostic
  pub some_fault : faults graph info public ≢ []
  pub are_diagnosed : AreDiagnosticsOf info (diagnosed first (faults graph info public)) diagnostics
  pub text : line ≡ line_of_data (diagnostics_data diagnostics)

-- the line with its status: 0 for a skeleton, 1 for diagnostics
abbrev pub IsAnswer : ModuleGraph → EsModule → PublicRanges → Bool → List ℕ → ℕ → Type 0
IsAnswer graph info public first line status =
    ((status ≡ 0) × IsSkeletonLine graph info public line) ⊎ ((status ≡ 1) × IsFaultsLine graph info public first line)
