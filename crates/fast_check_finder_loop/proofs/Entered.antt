-- A package that is entered, by its entry points and by its item.
use Rattle.std.proofs.Common.{◌≡◌, ◌==◌, sym, subst, false, length, Option, Some, None, List, [], ◌∷◌}
use Rattle.std.specs.Option.{MatchOption}
use Rattle.std.proofs.lemmas.Bool.{false≢true}
use Rattle.url.specs.Parts.{Parts}
use Rattle.fast_check_tables_packages.specs.Package.{Nv}
use Rattle.fast_check_tables_cache.specs.Cache.{ItemView}
use Rattle.fast_check_tables_graph.specs.declared.graph.ModuleGraph.{ModuleGraph}
use Rattle.fast_check_tables_graph.specs.declared.root_symbol.RootSymbol.{RootSymbol}
use Rattle.fast_check_finder_ranges.specs.declared.findings.found.EntryFault.{EntryFault}
use Rattle.fast_check_finder_demands.specs.asked.Demands.{DemandSet}
use Rattle.fast_check_finder_demands.specs.facts.GraphFacts.{Used}
use Rattle.fast_check_finder_loop.specs.declared.finder.Finder.{Finder}
use Rattle.fast_check_finder_loop.specs.Finder.{IsSound, Goes}
use Rattle.fast_check_finder_loop.specs.Lent.{used_of}
use Rattle.fast_check_finder_loop.specs.Rules.{unless_faulty}
use Rattle.fast_check_finder_loop.proofs.Steps.{goes_nowhere}

-- what a look-up answers is what is used
pub looked_up : {C : Type 0} (lent : Option C) (by : C → Used) (nv : Nv) (urls : List Parts) (found : Option ItemView) →
    MatchOption lent (found ≡ None) (λ c. found ≡ by c nv urls) → found ≡ used_of lent by nv urls
looked_up None by nv urls found h = h
looked_up (Some c) by nv urls found h = h

-- entry points are asked for where none of them is faulty
module _ (g : ModuleGraph) (r : RootSymbol) (a : Finder) (demand_sets : List DemandSet) where
  pub none_faulty : (faults : List (Parts × EntryFault)) (b : Finder) → faults ≡ [] → Goes g r demand_sets [] a b → Goes g r (unless_faulty faults demand_sets) [] a b
  none_faulty faults b none goes = subst (λ (fs : List (Parts × EntryFault)). Goes g r (unless_faulty fs demand_sets) [] a b) (sym none) goes

  pub some_faulty : (faults : List (Parts × EntryFault)) → (length faults == 0) ≡ false → IsSound g r a → Goes g r (unless_faulty faults demand_sets) [] a a
  some_faulty [] some sound = absurd (false≢true (sym some))
  some_faulty (f ∷ faults) some sound = goes_nowhere g r a sound
