-- How packages are answered, one after the other, and what a cache has then.
use Rattle.std.specs.Prelude.{◌≡◌, ℕ, Bool, List, [], ◌∷◌, ◌++◌, fold, Option}
use Rattle.std.specs.BTreeMap.{IsOrdered}
use Rattle.std.specs.BTreeSet.{IsOrdered as IsOrderedSet}
use Rattle.std.specs.Ordering.{nat_cmp}
use Rattle.std.specs.Cmp.Lexicographic.{slice_cmp}
use Rattle.std.specs.declared.cmp.Ordering.{Ordering}
use Rattle.url.specs.Parts.{Parts, serialize}
use Rattle.fast_check_tables_packages.specs.Package.{Nv, nv_of, nv_cmp}
use Rattle.fast_check_tables_packages.specs.declared.package.PackageNv.{PackageNv}
use Rattle.fast_check_tables_graph.specs.declared.graph.ModuleGraph.{ModuleGraph}
use Rattle.fast_check_tables_graph.specs.declared.root_symbol.RootSymbol.{RootSymbol}
use Rattle.fast_check_tables_cache.specs.Cache.{ItemView}
use Rattle.fast_check_tables_cache.specs.declared.package_ranges.PackagePublicRanges.{PackagePublicRanges}
use Rattle.fast_check_build_answers.specs.PackageAnswer.{Answer, IsPackageAnswer}
use Rattle.fast_check_build_answers.specs.Kept.{with_package}

-- specifiers by their texts
abbrev pub by_text : Parts → Parts → Ordering
by_text a b = slice_cmp nat_cmp (serialize a) (serialize b)

-- packages by name and version
abbrev pub by_nv : PackageNv → PackageNv → Ordering
by_nv a b = nv_cmp (nv_of a) (nv_of b)

-- a package is answered, its modules or its entry points in the order of their specifiers
pub record IsAnswered (graph : ModuleGraph) (root : RootSymbol) (first : Bool) (p : PackagePublicRanges)
    (answers : List Answer) : Type 0 where
  pub modules_in_order : IsOrdered by_text p.module_ranges
  pub entry_points_in_order : IsOrderedSet by_text p.entrypoints
  pub answered : IsPackageAnswer graph root p first answers

-- packages are answered one after the other
abbrev pub AreAnswered : ModuleGraph → RootSymbol → Bool → List (PackageNv × PackagePublicRanges) → List Answer → Type 0
AreAnswered graph root first [] answers = answers ≡ []
AreAnswered graph root first (p ∷ ps) answers =
    (part : List Answer) × (rest : List Answer) × (answers ≡ part ++ rest) × IsAnswered graph root first p.1 part ×
    AreAnswered graph root first ps rest

-- the map after the items of packages are set, one after the other
abbrev pub sets : (Nv → List (List ℕ) → ℕ) → Bool → ModuleGraph → RootSymbol → List (PackageNv × PackagePublicRanges) →
    (ℕ → Option ItemView) →
    ℕ → Option ItemView
sets key first graph root packages stored =
    fold (λ items p. with_package key first graph root (nv_of p.0) p.1 items) stored packages
