-- What is asked of a file or a module, by the package that it belongs to.
use Rattle.std.proofs.Common.{◌≡◌, sym, subst, Bool, false, cond, List, [], ◌∷◌, Option, Some, None}
use Rattle.fast_check_tables_packages.specs.Package.{Nv}
use Rattle.fast_check_tables_graph.specs.declared.graph.ModuleGraph.{ModuleGraph}
use Rattle.fast_check_tables_graph.specs.declared.root_symbol.RootSymbol.{RootSymbol}
use Rattle.fast_check_finder_demands.specs.symbol_demands.Rules.{each_of}
use Rattle.fast_check_finder_ranges.specs.findings.Yields.{dependency}
use Rattle.fast_check_finder_demands.specs.asked.Demands.{Text, NameDemands, same_nv, DemandSet, to_package, to_module}
use Rattle.fast_check_finder_demands.specs.facts.Followers.{file_at, behind}
use Rattle.fast_check_finder_loop.specs.declared.finder.Finder.{Finder}
use Rattle.fast_check_finder_loop.specs.Finder.{IsSound, Goes}
use Rattle.fast_check_finder_loop.specs.Yields.{dependencies}
use Rattle.fast_check_finder_loop.proofs.Steps.{goes_nowhere}

module _ (g : ModuleGraph) (r : RootSymbol) (nv : Nv) where
  -- what is asked, with the packages among it as dependencies
  abbrev pub AsksFor : List DemandSet → Finder → Finder → Type 0
  AsksFor ws a b = Goes g r ws (dependencies nv ws) a b

  -- what resolves to nothing asks for nothing
  pub asks_none : {X : Type 0} (h : X → List DemandSet) (o : Option X) (f : Finder) → IsSound g r f → o ≡ None → AsksFor (each_of h o) f f
  asks_none {X} h o f sound e = subst (λ (x : Option X). AsksFor (each_of h x) f f) (sym e) (goes_nowhere g r f sound)

  module _ (t : Text) (w : NameDemands) (o : Option Nv) where
    pub file_none : (f : Finder) → IsSound g r f → o ≡ None → AsksFor (file_at nv t w o) f f
    file_none f sound e = subst (λ (x : Option Nv). AsksFor (file_at nv t w x) f f) (sym e) (goes_nowhere g r f sound)

    pub behind_none : (f : Finder) → IsSound g r f → o ≡ None → AsksFor (behind nv t w o) f f
    behind_none f sound e = subst (λ (x : Option Nv). AsksFor (behind nv t w x) f f) (sym e) (goes_nowhere g r f sound)

    module _ (p : Nv) (a b : Finder) (e : o ≡ Some p) where
      pub behind_other : same_nv nv p ≡ false → Goes g r (to_module p t w ∷ to_package p ∷ []) (dependency nv p ∷ []) a b →
          AsksFor (behind nv t w o) a b
      behind_other s goes = subst (λ (x : Option Nv). AsksFor (behind nv t w x) a b) (sym e)
          (subst (λ (x : Bool). AsksFor (to_module p t w ∷ cond x [] (to_package p ∷ [])) a b) (sym s) goes)
