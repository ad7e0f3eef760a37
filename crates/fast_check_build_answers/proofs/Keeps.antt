-- What is cached of modules by their answers is what is to be cached of a package.
use Rattle.std.specs.Prelude.{◌≡◌, List, [], ◌∷◌, ◌++◌, map, Ok, Err, refl}
use Rattle.std.specs.List.{AllZip}
use Rattle.std.proofs.Common.{Bool, ◌∙◌, sym, ap, subst}
use Rattle.url.specs.Parts.{Parts}
use Rattle.fast_check_meaning_signatures.specs.declared.fault.Fault.{Fault}
use Rattle.fast_check_tables_modules.specs.EsModule.{EsModule}
use Rattle.fast_check_tables_modules.specs.diagnostics.Diagnostic.{specifier_of, report_of}
use Rattle.fast_check_tables_modules.specs.diagnostics.declared.diagnostics.FastCheckDiagnostic.{FastCheckDiagnostic}
use Rattle.fast_check_tables_modules.specs.diagnostics.declared.diagnostics.FastCheckDiagnostic.TheVariants as kinds
use Rattle.fast_check_tables_packages.specs.Package.{nv_of}
use Rattle.fast_check_tables_graph.specs.declared.graph.ModuleGraph.{ModuleGraph}
use Rattle.fast_check_tables_graph.specs.declared.root_symbol.RootSymbol.{RootSymbol}
use Rattle.fast_check_tables_cache.specs.declared.item.FastCheckCacheModuleItem.{FastCheckCacheModuleItem}
use Rattle.fast_check_tables_cache.specs.declared.package_ranges.PackagePublicRanges.{PackagePublicRanges}
use Rattle.fast_check_transform_module.specs.transform_faults.Diagnostics.{IsDiagnosticOf}
use Rattle.fast_check_build_answers.specs.PackageFaults.{PackageFault, transform_fault, found, Diagnoses, subject, package_faults, sound_front}
use Rattle.fast_check_build_answers.specs.PackageAnswer.{Answer, TreeModule, IsShown, ShowsMore, tree_modules}
use Rattle.fast_check_build_answers.specs.Kept.{entry_of, kept_info, kept_skeleton, kept_diagnostic, kept_by, kept_modules, item_for}
use Rattle.fast_check_build_answers.specs.KeptAnswers.{kept_answer, named_in, kept_answers}
use Rattle.fast_check_build_answers.proofs.Turns.{all_shown}

-- a fault is reported of its own module
diagnosed_at : (info : EsModule) (fault : Fault) (d : FastCheckDiagnostic) → IsDiagnosticOf info fault d → specifier_of d ≡ info.specifier
unfolding report_of
diagnosed_at info fault (kinds.MissingExplicitType place) h = h.1.specifier
diagnosed_at info fault (kinds.MissingExplicitReturnType place void async) h = h.1.specifier
diagnosed_at info fault (kinds.UnsupportedDestructuring place) h = h.1.specifier
diagnosed_at info fault (kinds.UnsupportedSuperClassExpr place) h = h.1.specifier
diagnosed_at info fault (kinds.UnsupportedDefaultExportExpr place) h = h.1.specifier
diagnosed_at info fault (kinds.UnsupportedUsing place) h = h.1.specifier
diagnosed_at info fault (kinds.UnsupportedRequire place) h = h.1.specifier
diagnosed_at info fault (kinds.UnsupportedTsExportAssignment place) h = h.1.specifier
diagnosed_at info fault (kinds.UnsupportedTsNamespaceExport place) h = h.1.specifier
diagnosed_at info fault (kinds.UnsupportedGlobalModule place) h = h.1.specifier
diagnosed_at info fault (kinds.UnsupportedAmbientModule place) h = h.1.specifier
diagnosed_at info fault (kinds.UnsupportedExpandoProperty place object reference) h = h.1.specifier
diagnosed_at info fault (kinds.NotFoundReference a b c) h = absurd h
diagnosed_at info fault (kinds.UnsupportedComplexReference a b c) h = absurd h
diagnosed_at info fault (kinds.UnsupportedPrivateMemberReference a b c) h = absurd h
diagnosed_at info fault (kinds.UnsupportedNestedJavaScript a) h = absurd h
diagnosed_at info fault (kinds.UnsupportedJavaScriptEntrypoint a) h = absurd h
diagnosed_at info fault (kinds.Emit a b) h = absurd h
diagnosed_at info fault (kinds.ExportNotFound a) h = absurd h
diagnosed_at info fault (kinds.Cached a) h = absurd h

diagnosed_of : (r : PackageFault) (d : FastCheckDiagnostic) → Diagnoses r d → specifier_of d ≡ subject r
diagnosed_of (found x) d h = ap specifier_of h
diagnosed_of (transform_fault info fault) d h = diagnosed_at info fault d h

subjects : (rs : List PackageFault) (ds : List FastCheckDiagnostic) → AllZip Diagnoses rs ds → map specifier_of ds ≡ map subject rs
subjects [] [] h = refl
subjects [] (d ∷ ds) h = absurd h
subjects (r ∷ rs) [] h = absurd h
subjects (r ∷ rs) (d ∷ ds) h = λ i. diagnosed_of r d h.0 i ∷ subjects rs ds h.1 i

named : (graph : ModuleGraph) (ms : List TreeModule) (answers : List Answer) → AllZip (IsShown graph) ms answers →
    map (λ a. a.0) answers ≡ map (λ m. m.specifier) ms
named graph [] [] h = refl
named graph [] (a ∷ answers) h = absurd h
named graph (m ∷ ms) [] h = absurd h
named graph (m ∷ ms) ((specifier, Ok made) ∷ answers) h = λ i. h.0.0 i ∷ named graph ms answers h.1 i
named graph (m ∷ ms) ((specifier, Err ds) ∷ answers) h = absurd h.0

skeletons : (graph : ModuleGraph) (ms : List TreeModule) (answers : List Answer) → AllZip (IsShown graph) ms answers →
    map (kept_answer graph) answers ≡ map (kept_skeleton graph) ms
skeletons graph [] [] h = refl
skeletons graph [] (a ∷ answers) h = absurd h
skeletons graph (m ∷ ms) [] h = absurd h
skeletons graph (m ∷ ms) ((specifier, Ok made) ∷ answers) h = λ i.
    kept_info graph (h.0.0 i) (h.0.1.depends i) (h.0.1.program i) (h.0.1.kept i) ∷ skeletons graph ms answers h.1 i
skeletons graph (m ∷ ms) ((specifier, Err ds) ∷ answers) h = absurd h.0

pub keeps : (graph : ModuleGraph) (ms : List TreeModule) (rs : List PackageFault) (answers : List Answer) (ds : List FastCheckDiagnostic) →
    AllZip (IsShown graph) ms answers → AllZip Diagnoses rs ds → kept_answers graph answers ds ≡ kept_by graph ms rs
keeps graph ms [] answers [] h k = skeletons graph ms answers h
keeps graph ms [] answers (d ∷ ds) h k = absurd k
keeps graph ms (r ∷ rs) answers [] h k = absurd k
keeps graph ms (r ∷ rs) answers (d ∷ ds) h k = λ i. map (kept_diagnostic graph)
    (named graph ms answers h i ++ subjects (r ∷ rs) (d ∷ ds) k i)

-- and so is the item of a package
pub item_kept : (graph : ModuleGraph) (root : RootSymbol) (ranges : PackagePublicRanges) (first : Bool) (begin skeletons seen : List Answer)
    (diagnostics diagnosed : List FastCheckDiagnostic) (modules : List (Parts × FastCheckCacheModuleItem)) → begin ≡ [] → seen ≡ skeletons →
    diagnosed ≡ diagnostics →
    AllZip Diagnoses (package_faults first graph root ranges.module_ranges.entries) diagnostics →
    ShowsMore graph (tree_modules root (sound_front first graph root ranges.module_ranges.entries)) begin skeletons →
    map entry_of modules ≡ kept_answers graph seen diagnosed → (map nv_of ranges.dependencies.keys, map entry_of modules) ≡
    item_for first graph root ranges
item_kept graph root ranges first begin skeletons seen diagnostics diagnosed modules start same is diagnoses shows kept =
    let ms = tree_modules root (sound_front first graph root ranges.module_ranges.entries) in
    let shown : AllZip (IsShown graph) ms seen =
    subst (λ (answers : List Answer). AllZip (IsShown graph) ms answers) (sym same) (all_shown graph ms begin skeletons start shows) in
    let all : AllZip Diagnoses (package_faults first graph root ranges.module_ranges.entries) diagnosed =
    subst (λ (ds : List FastCheckDiagnostic). AllZip Diagnoses (package_faults first graph root ranges.module_ranges.entries) ds)
    (sym is) diagnoses in
    let modules_are : map entry_of modules ≡ kept_modules first graph root ranges.module_ranges.entries =
    kept ∙ keeps graph ms (package_faults first graph root ranges.module_ranges.entries) seen diagnosed shown all in
    λ i. (map nv_of ranges.dependencies.keys, modules_are i)
