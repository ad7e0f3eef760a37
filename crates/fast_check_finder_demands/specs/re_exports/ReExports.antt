-- What a demand of a module asks of other modules, by what the module exports again, and which re-exports of all it
-- makes public.
use Rattle.std.specs.Prelude.{ℕ, is_some, cond, List, [], ◌∷◌, map, Option, Some, None, string_bytes}
use Rattle.url.specs.Parts.{Parts}
use Rattle.fast_check_tree_syntax.specs.declared.source.SourceRange.{SourceRange}
use Rattle.fast_check_finder_lattice.specs.Names.{Name, Path}
use Rattle.fast_check_finder_lattice.specs.Imports.{NameDemand, names_but_default, each_name, subset_at, whole_at}
use Rattle.fast_check_tables_modules.specs.symbols.declared.tables.ReExportAllNode.{ReExportAllNode}
use Rattle.fast_check_finder_demands.specs.symbol_demands.Rules.{each_of}
use Rattle.fast_check_finder_demands.specs.name_demands.Files.{names_of}
use Rattle.fast_check_finder_demands.specs.declared.re_exports.list.ReExportDemand.{ReExportDemand}
use Rattle.fast_check_finder_demands.specs.declared.re_exports.list.ReExportDemand.TheVariants.{ReExported, Answered}
use Rattle.fast_check_finder_demands.specs.declared.re_exports.modules.GraphModule.{GraphModule}
use Rattle.fast_check_finder_demands.specs.declared.re_exports.public.PublicReExports.{PublicReExports}
use Rattle.fast_check_finder_demands.specs.declared.re_exports.public.PublicReExports.TheVariants.{Nothing, First, All}
use Rattle.fast_check_finder_demands.specs.re_exports.Modules.{own_tables, own_export, first_with, answer_to}

-- all but `default` of the file that a text names, or a name of the module that answers it; both of whatever package
pub data ModuleDemand : Type 0 where
  re_exported : List ℕ → ModuleDemand
  answered : Parts → NameDemand → ModuleDemand

-- what a value of the code stands for
abbrev pub module_demand_of : ReExportDemand → ModuleDemand
module_demand_of (ReExported text) = re_exported text.now
module_demand_of (Answered url demand) = answered url.now (names_of demand)

-- ranges

abbrev pub node_ranges : List ReExportAllNode → List SourceRange
node_ranges nodes = map (λ x. x.range) nodes

-- a name that the module does not export itself makes the first re-export of all public that has it, and all of them
-- where none has it
abbrev pub first_range : List ReExportAllNode → Option ReExportAllNode → List SourceRange
first_range nodes None = node_ranges nodes
first_range nodes (Some x) = x.range ∷ []

abbrev pub path_ranges : GraphModule → Name → List SourceRange
path_ranges m name = cond (is_some (own_export (own_tables m) name)) []
    (first_range (own_tables m).re_exports (first_with m name (own_tables m).re_exports))

-- stars make all of them public
abbrev pub re_export_ranges : GraphModule → NameDemand → List SourceRange
re_export_ranges m names_but_default = node_ranges (own_tables m).re_exports
re_export_ranges m each_name = node_ranges (own_tables m).re_exports
re_export_ranges m (subset_at []) = []
re_export_ranges m (subset_at (n ∷ p)) = path_ranges m n
re_export_ranges m (whole_at []) = []
re_export_ranges m (whole_at (n ∷ p)) = path_ranges m n

-- what a value of the code stands for
abbrev pub shown_ranges : List ReExportAllNode → PublicReExports → List SourceRange
shown_ranges nodes Nothing = []
shown_ranges nodes (First range) = range ∷ []
shown_ranges nodes All = node_ranges nodes

-- demands of other modules

abbrev pub all_re_exported : List ReExportAllNode → List ModuleDemand
all_re_exported nodes = map (λ x. re_exported (string_bytes x.specifier)) nodes

abbrev pub answered_at : NameDemand → Option Parts → List ModuleDemand
answered_at demand answer = each_of (λ url. answered url demand ∷ []) answer

-- a name that the module does not export itself is asked of the module that answers it
abbrev pub path_followers : GraphModule → Name → NameDemand → List ModuleDemand
path_followers m name demand = cond (is_some (own_export (own_tables m) name)) [] (answered_at demand (answer_to m name))

abbrev pub named_followers : GraphModule → Path → NameDemand → List ModuleDemand
named_followers m [] demand = []
named_followers m (n ∷ p) demand = path_followers m n demand

abbrev pub module_followers : GraphModule → NameDemand → List ModuleDemand
module_followers m names_but_default = all_re_exported (own_tables m).re_exports
module_followers m each_name = all_re_exported (own_tables m).re_exports
module_followers m (subset_at p) = named_followers m p (subset_at p)
module_followers m (whole_at p) = named_followers m p (whole_at p)
