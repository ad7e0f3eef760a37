-- What a name that the module does not export itself makes public, and asks for, by where it comes from.
use Rattle.std.proofs.Common.{◌≡◌, ◌∙◌, ap, subst, cond, is_some, List, [], Option, None, option_map}
use Rattle.fast_check_finder_lattice.specs.Names.{Name}
use Rattle.fast_check_finder_lattice.specs.Imports.{NameDemand}
use Rattle.fast_check_tables_symbols.specs.declared.symbol_id.SymbolId.{SymbolId}
use Rattle.fast_check_tables_modules.specs.symbols.Tables.{Tables}
use Rattle.fast_check_tables_modules.specs.symbols.declared.tables.ReExportAllNode.{ReExportAllNode}
use Rattle.fast_check_finder_demands.specs.declared.re_exports.modules.GraphModule.{GraphModule}
use Rattle.fast_check_finder_demands.specs.declared.re_exports.public.PublicReExports.{PublicReExports}
use Rattle.fast_check_finder_demands.specs.re_exports.Modules.{own_tables, own_export, first_with, answer_to}
use Rattle.fast_check_finder_demands.specs.re_exports.Origins.{Answered, own_origin}
use Rattle.fast_check_finder_demands.specs.re_exports.ReExports.{ModuleDemand, shown_ranges, first_range, path_ranges, answered_at, path_followers}
use Rattle.fast_check_finder_demands.proofs.re_exports.Firsts.{first_node, first_answer}

module _ (m : GraphModule) (name : Name) (t : Tables) (is : t ≡ own_tables m) (none : None ≡ own_export t name) (o : Option Answered)
    (from : o ≡ own_origin m name) where
  abbrev nodes : List ReExportAllNode
  nodes = (own_tables m).re_exports

  no_export : None ≡ own_export (own_tables m) name
  no_export = subst (λ (u : Tables). None ≡ own_export u name) is none

  pub named_ranges : (r : PublicReExports) → shown_ranges t.re_exports r ≡ first_range t.re_exports (option_map (λ a. a.0) o) →
      shown_ranges (own_tables m).re_exports r ≡ path_ranges m name
  named_ranges r e =
      subst (λ (u : Tables). shown_ranges u.re_exports r ≡ first_range u.re_exports (option_map (λ a. a.0) o)) is e
      ∙ (ap (λ (p : Option Answered). first_range nodes (option_map (λ a. a.0) p)) from
      ∙ (ap (first_range nodes) (first_node m name nodes)
      ∙ ap (λ (x : Option SymbolId). cond (is_some x) [] (first_range nodes (first_with m name nodes))) no_export))

  pub named_followers : (d : NameDemand) (demands : List ModuleDemand) → demands ≡ answered_at d (option_map (λ a. a.1) o) → demands ≡ path_followers m name d
  named_followers d demands e =
      e
      ∙ (ap (λ (p : Option Answered). answered_at d (option_map (λ a. a.1) p)) from
      ∙ (ap (answered_at d) (first_answer m name nodes)
      ∙ ap (λ (x : Option SymbolId). cond (is_some x) [] (answered_at d (answer_to m name))) no_export))
