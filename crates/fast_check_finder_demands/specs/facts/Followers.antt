-- What a module asks of files, and of other modules.
use Rattle.std.specs.Prelude.{ℕ, cond, List, [], ◌∷◌, Option, Some, None}
use Rattle.url.specs.Parts.{Parts, serialize}
use Rattle.fast_check_tables_packages.specs.Package.{Nv}
use Rattle.fast_check_finder_lattice.specs.Imports.{names_but_default}
use Rattle.fast_check_tables_graph.specs.Graph.{resolved_to}
use Rattle.fast_check_tables_graph.specs.Root.{specifier_of}
use Rattle.fast_check_finder_demands.specs.symbol_demands.Rules.{each_of}
use Rattle.fast_check_finder_demands.specs.name_demands.Files.{FileDemand}
use Rattle.fast_check_finder_demands.specs.declared.re_exports.modules.GraphModule.{GraphModule}
use Rattle.fast_check_finder_demands.specs.re_exports.ReExports.{ModuleDemand, re_exported, answered}
use Rattle.fast_check_finder_demands.specs.asked.Demands.{Text, NameDemands, same_nv, asked_by, DemandSet, to_package, to_module}
use Rattle.fast_check_finder_demands.specs.facts.GraphFacts.{Known}

-- a file of the same package is demanded. Of another package only the package is
abbrev pub file_at : Nv → Text → NameDemands → Option Nv → List DemandSet
file_at nv t w None = []
file_at nv t w (Some p) = cond (same_nv nv p) (to_module p t w ∷ []) (to_package p ∷ [])

-- behind a re-export of all a module is demanded of whatever package
abbrev pub behind : Nv → Text → NameDemands → Option Nv → List DemandSet
behind nv t w None = []
behind nv t w (Some p) = to_module p t w ∷ cond (same_nv nv p) [] (to_package p ∷ [])

-- what a text in the module resolves to
abbrev pub resolved : GraphModule → List ℕ → Option Parts
resolved m text = resolved_to m.graph.now text (specifier_of m.info.now)

-- what is asked of a file. A text that resolves to nothing, and a module that belongs to no package, ask for nothing
abbrev pub file_followers : Known → Nv → GraphModule → FileDemand → List DemandSet
file_followers k nv m f = each_of (λ url. file_at nv (serialize url) (asked_by f.names) (k.owner (serialize url)))
    (resolved m f.text)

-- what is asked by what the module exports again
abbrev pub re_export_followers : Known → Nv → GraphModule → ModuleDemand → List DemandSet
re_export_followers k nv m (re_exported text) =
    each_of (λ url. behind nv (serialize url) (asked_by names_but_default) (k.owner (serialize url))) (resolved m text)
re_export_followers k nv m (answered url d) = behind nv (serialize url) (asked_by d) (k.owner (serialize url))
