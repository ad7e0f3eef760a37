-- Builds of two inputs that differ by hidden code alone.
use Rattle.std.specs.Prelude.{◌≡◌, Bool, List, Option, Some, None, Ok, Err}
use Rattle.url.specs.Parts.{Parts, serialize}
use Rattle.fast_check_tree_syntax.specs.Moves.{Renaming}
use Rattle.fast_check_tree_syntax.specs.Same.{Each}
use Rattle.fast_check_tables_packages.specs.Package.{Nv}
use Rattle.fast_check_tables_diagnostics.specs.declared.diagnostics.FastCheckDiagnostic.{FastCheckDiagnostic}
use Rattle.fast_check_tables_modules.specs.EsModule.{EsModule}
use Rattle.fast_check_tables_modules.specs.diagnostics.PublicRanges.{PublicRanges}
use Rattle.fast_check_tables_graph.specs.declared.root_symbol.AnyModuleInfo.{AnyModuleInfo}
use Rattle.fast_check_tables_graph.specs.declared.root_symbol.AnyModuleInfo.TheVariants.{Esm, Json}
use Rattle.fast_check_tables_graph.specs.Root.{found_module}
use Rattle.fast_check_transform_pair.specs.Compared.{SameDiagnostic}
use Rattle.fast_check_transform_pair.specs.Worlds.{SameModule}
use Rattle.fast_check_finder_demands.specs.asked.Demands.{Text, Demand}
use Rattle.fast_check_finder_ranges.specs.Answers.{module_answer}
use Rattle.fast_check_finder_ranges.specs.findings.Yields.{ModuleFault, faulty}
use Rattle.fast_check_finder_loop.specs.demands.facts.GraphFacts.{Known}
use Rattle.fast_check_finder_loop.specs.Account.{Chained}
use Rattle.fast_check_finder_loop.specs.Rules.{followers}
use Rattle.fast_check_finder_loop.specs.Yields.{demand_yields}
use Rattle.std.specs.List.{Contains}
use Rattle.fast_check_build_answers.specs.PackageAnswer.{Answer, AreCopies}
use Rattle.fast_check_build.specs.Build.{IsBuilt}
use Rattle.fast_check_finder_unique.specs.Edits.{SymbolRenaming}
use Rattle.fast_check_build_unique.specs.Moved.{Renamings}
use Rattle.fast_check_build_unique.specs.Lockstep.{AreInLockstep, AreBothSettled}
use Rattle.fast_check_build_unique.specs.Modules.{DifferHidden, Found}

-- no demand yields an error, so the finder reports none
abbrev pub HasNoError : Known → List Nv → Type 0
HasNoError k roots = (d : Demand) → Chained (followers k) roots d → (p : Nv) (t : Text) (f : ModuleFault) →
    Contains (demand_yields k d) (faulty p t f) → ⊥

-- the two modules of one name: no modules, two of JSON, or two versions that differ by hidden code alone
abbrev pub AreVersions : Renaming → Known → Known → PublicRanges → Option AnyModuleInfo → Option AnyModuleInfo → Type 0
AreVersions r k l m None None = Unit {0}
AreVersions r k l m (Some (Json a)) (Some (Json b)) = Unit {0}
AreVersions r k l m (Some (Esm a)) (Some (Esm b)) = DifferHidden r k l a b m
AreVersions r k l m _ _ = ⊥

-- each module that the finder answers in the first input
abbrev pub HaveVersions : Renamings → Known → Known → Found → Type 0
HaveVersions moves k l found = (nv : Nv) (s u : Parts) (m : PublicRanges) → serialize s ≡ serialize u →
    module_answer found nv (serialize s) ≡ Some m →
    AreVersions (moves (serialize s)) k l m (found_module k.root_symbol s) (found_module l.root_symbol u)

-- Two inputs of a build that differ by hidden code alone. As they are in lockstep, no cached item is used.
pub record DifferHiddenly (k l : Known) (roots : List Nv) (renames : SymbolRenaming) (moves : Renamings) : Type 0 where
  pub lockstep : AreInLockstep k l roots renames moves
  pub settled : AreBothSettled k l roots
  pub has_no_error : HasNoError k roots

-- one diagnostic, under the renaming of a name of its module
pub record SameInModule (k : Known) (moves : Renamings) (d e : FastCheckDiagnostic) : Type 0 where
  pub name : Parts
  pub info : EsModule
  pub is_found : found_module k.root_symbol name ≡ Some (Esm info)
  pub same : SameDiagnostic (moves (serialize name)) d e
  pub specifier : same.first_place.specifier ≡ info.specifier

-- copies of two lists that are the same, one by one
pub record SameReports (k : Known) (moves : Renamings) (ds es : List FastCheckDiagnostic) : Type 0 where
  pub first : List FastCheckDiagnostic
  pub second : List FastCheckDiagnostic
  pub same : Each (SameInModule k moves) first second
  pub first_copies : AreCopies first ds
  pub second_copies : AreCopies second es

-- one answer: a module by the same skeleton, or an entry point by the same diagnostics
abbrev pub SameBuilt : Known → Renamings → Answer → Answer → Type 0
SameBuilt k moves (s, Ok x) (u, Ok y) = (serialize s ≡ serialize u) × SameModule (moves (serialize s)) x y
SameBuilt k moves (s, Err ds) (u, Err es) = (serialize s ≡ serialize u) × SameReports k moves ds.items es.items
SameBuilt k moves _ _ = ⊥

-- Builds of two such inputs answer the same, one by one.
abbrev pub KeepsBuilds : Type 0
KeepsBuilds = (k l : Known) (roots : List Nv) (renames : SymbolRenaming) (moves : Renamings) (first_alone : Bool)
    (answers_k answers_l : List Answer) → DifferHiddenly k l roots renames moves →
    (built_k : IsBuilt k roots first_alone answers_k) → IsBuilt l roots first_alone answers_l →
    HaveVersions moves k l built_k.ranges → Each (SameBuilt k moves) answers_k answers_l
