-- Inner: no contract of a public call cites what stands here.
-- What is cached of modules, by their answers.
use Rattle.std.specs.Prelude.{List, [], ◌∷◌, ◌++◌, map, Ok, Err}
use Rattle.url.specs.Parts.{Parts}
use Rattle.fast_check_tables_modules.specs.diagnostics.Diagnostic.{specifier_of}
use Rattle.fast_check_tables_modules.specs.diagnostics.declared.diagnostics.FastCheckDiagnostic.{FastCheckDiagnostic}
use Rattle.fast_check_tables_graph.specs.declared.graph.ModuleGraph.{ModuleGraph}
use Rattle.fast_check_tables_cache.specs.Cache.{ModuleView}
use Rattle.fast_check_build_answers.specs.PackageAnswer.{Answer}
use Rattle.fast_check_build_answers.specs.Kept.{kept_info, kept_diagnostic}

-- of one that is answered
abbrev pub kept_answer : ModuleGraph → Answer → Parts × ModuleView
kept_answer graph (specifier, Ok made) =
    kept_info graph specifier made.module_info.sources.items made.program made.comments
kept_answer graph (specifier, Err _) = kept_diagnostic graph specifier

-- the modules that are answered, and those of the diagnostics
abbrev pub named_in : List Answer → List FastCheckDiagnostic → List Parts
named_in answers diagnostics = map (λ a. a.0) answers ++ map specifier_of diagnostics

-- of those that are answered, where nothing is wrong, or of all that are named
abbrev pub kept_answers : ModuleGraph → List Answer → List FastCheckDiagnostic → List (Parts × ModuleView)
kept_answers graph answers [] = map (kept_answer graph) answers
kept_answers graph answers (d ∷ ds) = map (kept_diagnostic graph) (named_in answers (d ∷ ds))
