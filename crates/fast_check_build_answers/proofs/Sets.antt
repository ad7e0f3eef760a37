-- The map after one package.
use Rattle.std.proofs.Common.{◌≡◌, ◌∙◌, ◌==◌, sym, ap, ℕ, Bool, true, false, List, length, map, Option, if◌then◌else◌}
use Rattle.std.specs.Prelude.{vec_len}
use Rattle.url.specs.Parts.{serialize}
use Rattle.fast_check_tables_packages.specs.Package.{Nv}
use Rattle.fast_check_tables_graph.specs.declared.graph.ModuleGraph.{ModuleGraph}
use Rattle.fast_check_tables_graph.specs.declared.root_symbol.RootSymbol.{RootSymbol}
use Rattle.fast_check_tables_cache.specs.Cache.{ItemView, with_item}
use Rattle.fast_check_tables_cache.specs.declared.package_ranges.PackagePublicRanges.{PackagePublicRanges}
use Rattle.fast_check_build_answers.specs.Kept.{item_for, with_package}
use Rattle.fast_check_build_answers.proofs.Lists.{empty_test, full_test}
use Rattle.fast_check_build_answers.proofs.Turns.{empty_vec, full_vec}

abbrev Items : Type 0
Items = ℕ → Option ItemView

-- of which nothing is used
pub found_set : (key : Nv → List (List ℕ) → ℕ) (first : Bool) (graph : ModuleGraph) (root : RootSymbol) (nv : Nv) (p : PackagePublicRanges)
    (old new : Items)
    (b : Bool) → b ≡ (vec_len p.cache_items == 0) → b ≡ true →
    new ≡ with_item (key nv (map serialize p.entrypoints.keys)) (item_for first graph root p) old →
    new ≡ with_package key first graph root nv p old
found_set key first graph root nv p old new b is e set =
    set ∙ sym (ap (λ c. if c then with_item (key nv (map serialize p.entrypoints.keys)) (item_for first graph root p) old else old)
    (empty_test p.cache_items.items (empty_vec p.cache_items b is e)))

-- of which a module is used
pub used_set : (key : Nv → List (List ℕ) → ℕ) (first : Bool) (graph : ModuleGraph) (root : RootSymbol) (nv : Nv) (p : PackagePublicRanges)
    (old : Items)
    (b : Bool) → b ≡ (vec_len p.cache_items == 0) → b ≡ false → old ≡ with_package key first graph root nv p old
used_set key first graph root nv p old b is e =
    sym (ap (λ c. if c then with_item (key nv (map serialize p.entrypoints.keys)) (item_for first graph root p) old else old)
    (full_test p.cache_items.items (full_vec p.cache_items b is e)))
