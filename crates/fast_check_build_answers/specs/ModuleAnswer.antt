-- Inner: no contract of a public call cites what stands here.
-- How one module of a package is answered.
use Rattle.std.specs.Prelude.{◌≡◌, List, [], length, take}
use Rattle.std.specs.List.{AllZip}
use Rattle.fast_check_tables_modules.specs.diagnostics.declared.diagnostics.FastCheckDiagnostic.{FastCheckDiagnostic}
use Rattle.fast_check_tables_graph.specs.declared.graph.ModuleGraph.{ModuleGraph}
use Rattle.fast_check_build_answers.specs.PackageFaults.{PackageFault, Diagnoses}
use Rattle.fast_check_build_answers.specs.PackageAnswer.{Answer, TreeModule, ShowsMore}

-- what is wrong with a module is diagnosed; where that is nothing, its tree goes to the answers, behind those that stand there
pub record IsModuleAnswer (graph : ModuleGraph) (wrong : List PackageFault) (trees : List TreeModule)
    (diagnostics : List FastCheckDiagnostic) (old new : List Answer) : Type 0 where
  pub faults : AllZip Diagnoses wrong diagnostics
  pub shown : diagnostics ≡ [] → ShowsMore graph trees old new
  pub stay : take (length old) new ≡ old
