-- What is reported where the first fault is wanted alone is a front of all that is reported.
use Rattle.std.specs.Prelude.{◌≡◌, true, false, List, [], ◌∷◌, ◌++◌, map, take, Option, Some, None, refl}
use Rattle.std.specs.List.{flat_map}
use Rattle.std.proofs.Common.{◌∙◌, sym, ap, subst, append_assoc}
use Rattle.std.proofs.lemmas.List.{append-nil}
use Rattle.fast_check_meaning_signatures.specs.declared.fault.Fault.{Fault}
use Rattle.fast_check_tables_modules.specs.diagnostics.PublicRanges.{PublicRanges}
use Rattle.fast_check_tables_modules.specs.diagnostics.declared.diagnostics.FastCheckDiagnostic.{FastCheckDiagnostic}
use Rattle.fast_check_tables_modules.specs.EsModule.{EsModule}
use Rattle.fast_check_tables_graph.specs.Root.{found_module}
use Rattle.fast_check_tables_graph.specs.declared.graph.ModuleGraph.{ModuleGraph}
use Rattle.fast_check_tables_graph.specs.declared.root_symbol.AnyModuleInfo.{AnyModuleInfo}
use Rattle.fast_check_tables_graph.specs.declared.root_symbol.AnyModuleInfo.TheVariants.{Esm, Json}
use Rattle.fast_check_tables_graph.specs.declared.root_symbol.RootSymbol.{RootSymbol}
use Rattle.fast_check_transform_module.specs.Transform.{faults}
use Rattle.fast_check_build_answers.specs.PackageFaults.{PublicModule, PackageFault, transform_fault, found, faults_in_tree, found_or, module_faults}
use Rattle.fast_check_build_answers.specs.PackageFaults.{first_list, package_faults}
use Rattle.fast_check_build_answers.specs.PackageAnswer.{IsFrontAlone}
use Rattle.fast_check_meaning_signatures.proofs.Choices.{no_left}

-- a front of a list, which is empty where the list is
record IsFront (front all : List PackageFault) : Type 0 where
  rest : List PackageFault
  joined : all ≡ front ++ rest
  empty : front ≡ [] → all ≡ []

whole : (rs : List PackageFault) → IsFront rs rs
whole rs = record { rest = []; joined = sym (append-nil rs); empty = λ e. e }

one_fault : (info : EsModule) (fs : List Fault) → IsFront (map (transform_fault info) (take 1 fs)) (map (transform_fault info) fs)
one_fault info [] = whole []
one_fault info (f ∷ fs) = record { rest = map (transform_fault info) fs; joined = refl; empty = λ e. cc }

in_tree : (graph : ModuleGraph) (public : PublicRanges) (info : Option AnyModuleInfo) →
    IsFront (faults_in_tree true graph public info) (faults_in_tree false graph public info)
in_tree graph public None = whole []
in_tree graph public (Some (Json json)) = whole []
in_tree graph public (Some (Esm info)) = one_fault info (faults graph info public)

or_found : (ds : List FastCheckDiagnostic) (rs all : List PackageFault) → IsFront rs all → IsFront (found_or ds rs) (found_or ds all)
or_found [] rs all h = h
or_found (d ∷ ds) rs all h = whole (map found (d ∷ ds))

in_module : (graph : ModuleGraph) (root : RootSymbol) (m : PublicModule) →
    IsFront (module_faults true graph root m) (module_faults false graph root m)
in_module graph root m = or_found m.1.diagnostics _ _ (in_tree graph m.1 (found_module root m.0))

one_more : (front all : List PackageFault) (fronts : List (List PackageFault)) (others : List PackageFault) → IsFront front all →
    IsFront (first_list fronts) others →
    IsFront (first_list (front ∷ fronts)) (all ++ others)
one_more [] all fronts others h k =
    subst (λ rs. IsFront (first_list fronts) (rs ++ others)) (sym (h.empty refl)) k
one_more (r ∷ rs) all fronts others h k = record {
  rest = h.rest ++ others;
  joined = ap (λ xs. xs ++ others) h.joined ∙ append_assoc (r ∷ rs) h.rest others;
  empty = λ e. cc;
}

in_package : (graph : ModuleGraph) (root : RootSymbol) (modules : List PublicModule) →
    IsFront (package_faults true graph root modules) (package_faults false graph root modules)
in_package graph root [] = whole []
in_package graph root (m ∷ modules) =
    one_more (module_faults true graph root m) (module_faults false graph root m) (map (module_faults true graph root) modules)
    (flat_map (module_faults false graph root) modules) (in_module graph root m) (in_package graph root modules)

pub front_alone : (graph : ModuleGraph) (root : RootSymbol) (modules : List PublicModule) → IsFrontAlone graph root modules
front_alone graph root modules =
    let h = in_package graph root modules in record {
      rest = h.rest;
      front = h.joined;
      same_refused = (h.empty, λ e. no_left _ h.rest (sym h.joined ∙ e));
    }
