-- The re-exports of all that are public are the module's own.
use Rattle.std.proofs.Common.{◌≡◌, refl, subst, Bool, true, false, cond, is_some, List, [], ◌∷◌, map, Option, Some, None}
use Rattle.std.specs.List.{Contains, find, flat_map}
use Rattle.std.proofs.lemmas.List.Elements.{Contains-append_right}
use Rattle.std.proofs.lemmas.Option.{none-some, same_Some}
use Rattle.fast_check_tree_syntax.specs.declared.source.SourceRange.{SourceRange}
use Rattle.fast_check_finder_lattice.specs.Names.{Name}
use Rattle.fast_check_finder_lattice.specs.Imports.{NameDemand, names_but_default, each_name, subset_at, whole_at}
use Rattle.fast_check_tables_modules.specs.symbols.declared.tables.ReExportAllNode.{ReExportAllNode}
use Rattle.fast_check_tables_modules.specs.symbols.Tables.{table_ranges}
use Rattle.fast_check_finder_demands.specs.Yields.{AreTableRanges}
use Rattle.fast_check_finder_demands.proofs.Elements.{first, later, in_map}
use Rattle.fast_check_finder_demands.proofs.Each.{Each, each_nil, each_one, each_map, each_cond}
use Rattle.fast_check_finder_demands.specs.declared.re_exports.modules.GraphModule.{GraphModule}
use Rattle.fast_check_finder_demands.specs.re_exports.Modules.{own_tables, own_export, answer_of, first_with}
use Rattle.fast_check_finder_demands.specs.re_exports.ReExports.{node_ranges, first_range, path_ranges, re_export_ranges}

-- what is found is there
pub found_inside : {X : Type 0} (test : X → Bool) (xs : List X) (x : X) → find test xs ≡ Some x → Contains xs x
found_inside test [] x e = absurd (none-some x e)
found_inside {X} test (y ∷ ys) x e = go (test y) (found_inside test ys x) e
  where
    go : (b : Bool) → (find test ys ≡ Some x → Contains ys x) → cond b (Some y) (find test ys) ≡ Some x → Contains (y ∷ ys) x
    go true below h = subst (λ (z : X). Contains (y ∷ ys) z) (same_Some y x h) (first y y ys refl)
    go false below h = later y ys x (below h)

module _ (m : GraphModule) where
  abbrev Own : SourceRange → Type 0
  Own = Contains (table_ranges (own_tables m).symbols (own_tables m).re_exports)

  own_node : (x : ReExportAllNode) → Contains (own_tables m).re_exports x → Own x.range
  own_node x h = Contains-append_right (flat_map (λ s. map (λ d. d.range) s.decls.items) (own_tables m).symbols)
      (node_ranges (own_tables m).re_exports) x.range
      (in_map (λ n. n.range) (own_tables m).re_exports x h)

  own_nodes : Each Own (node_ranges (own_tables m).re_exports)
  own_nodes = each_map Own (λ x. x.range) (own_tables m).re_exports own_node

  own_first : (o : Option ReExportAllNode) → ((x : ReExportAllNode) → o ≡ Some x → Contains (own_tables m).re_exports x) →
      Each Own (first_range (own_tables m).re_exports o)
  own_first None h = own_nodes
  own_first (Some x) h = each_one Own x.range (own_node x (h x refl))

  own_path : (name : Name) → Each Own (path_ranges m name)
  own_path name = each_cond Own (is_some (own_export (own_tables m) name)) []
      (first_range (own_tables m).re_exports (first_with m name (own_tables m).re_exports))
      (each_nil Own)
      (own_first (first_with m name (own_tables m).re_exports)
      (λ x e. found_inside (λ y. is_some (answer_of m name y)) (own_tables m).re_exports x e))

  pub own_demand : (d : NameDemand) → AreTableRanges (own_tables m) (re_export_ranges m d)
  own_demand names_but_default = own_nodes
  own_demand each_name = own_nodes
  own_demand (subset_at []) = each_nil Own
  own_demand (subset_at (n ∷ p)) = own_path n
  own_demand (whole_at []) = each_nil Own
  own_demand (whole_at (n ∷ p)) = own_path n
