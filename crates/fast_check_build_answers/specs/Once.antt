-- A package's answer in which its diagnostics stand once, whatever the number of its entry points.
use Rattle.std.specs.Prelude.{◌≡◌, ◌≢◌, Bool, List, []}
use Rattle.std.specs.List.{AllZip}
use Rattle.url.specs.Parts.{Parts}
use Rattle.fast_check_tables_packages.specs.declared.package.PackageNv.{PackageNv}
use Rattle.fast_check_tables_modules.specs.diagnostics.declared.diagnostics.FastCheckDiagnostic.{FastCheckDiagnostic}
use Rattle.fast_check_tables_graph.specs.declared.graph.ModuleGraph.{ModuleGraph}
use Rattle.fast_check_tables_graph.specs.declared.root_symbol.RootSymbol.{RootSymbol}
use Rattle.fast_check_tables_cache.specs.declared.package_ranges.PackagePublicRanges.{PackagePublicRanges}
use Rattle.fast_check_build_answers.specs.PackageAnswer.{Answer, IsRefused, IsPackageAnswer}
use Rattle.fast_check_build_answers.specs.Answered.{IsAnswered}
use Rattle.fast_check_build_answers.specs.declared.once.PackageAnswer.{PackageAnswer}

-- what modules are answered by: their skeletons where there are no diagnostics, and else each entry point by a copy of these
pub record IsWrittenOut (made : PackageAnswer) (answers : List Answer) : Type 0 where
  pub skeletons : made.diagnostics.items ≡ [] → answers ≡ made.skeletons.items
  pub refused : made.diagnostics.items ≢ [] → AllZip (IsRefused made.diagnostics.items) made.entrypoints.keys answers

-- written out, it is what the package is answered by
abbrev pub IsAnsweredOnce : ModuleGraph → RootSymbol → Bool → PackagePublicRanges → PackageAnswer → Type 0
IsAnsweredOnce graph root first ranges made = (answers : List Answer) → IsWrittenOut made answers → IsAnswered graph root first ranges answers

-- packages are answered one after the other
abbrev pub AreAnsweredOnce : ModuleGraph → RootSymbol → Bool → List (PackageNv × PackagePublicRanges) → List PackageAnswer → Type 0
AreAnsweredOnce graph root first = AllZip (λ p made. IsAnsweredOnce graph root first p.1 made)
