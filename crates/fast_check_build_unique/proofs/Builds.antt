-- Builds of two inputs that differ by hidden code alone answer the same.
use Rattle.std.proofs.Common.{◌≡◌, refl, Bool, List, [], ◌∷◌, map}
use Rattle.std.specs.List.{Contains}
use Rattle.fast_check_tree_syntax.specs.Same.{Each}
use Rattle.fast_check_tables_packages.specs.Package.{Nv, nv_of}
use Rattle.fast_check_tables_packages.specs.declared.package.PackageNv.{PackageNv}
use Rattle.fast_check_tables_cache.specs.declared.package_ranges.PackagePublicRanges.{PackagePublicRanges}
use Rattle.fast_check_finder_demands.proofs.Elements.{first, later}
use Rattle.fast_check_finder_loop.specs.demands.facts.GraphFacts.{Known}
use Rattle.fast_check_build_answers.specs.PackageAnswer.{Answer}
use Rattle.fast_check_build_answers.specs.Answered.{IsAnswered, AreAnswered}
use Rattle.fast_check_build.specs.Build.{IsBuilt}
use Rattle.fast_check_finder_unique.specs.Edits.{SymbolRenaming}
use Rattle.fast_check_build_unique.specs.Moved.{Renamings}
use Rattle.fast_check_build_unique.specs.Builds.{HaveVersions, DifferHiddenly, SameBuilt}
use Rattle.fast_check_build_unique.proofs.Keys.{same_packages}
use Rattle.fast_check_build_unique.proofs.Packages.{to, from, package_alike}
use Rattle.fast_check_build_unique.proofs.Transformed.{both}
use Rattle.fast_check_build_unique.proofs.Zipped.{heads_are, each_append}

abbrev Packages : Type 0
Packages = List (PackageNv × PackagePublicRanges)

module _ (k l : Known) (first_alone : Bool) (R : Answer → Answer → Type 0) where
  abbrev AreAlikeAt : Packages → Packages → Type 0
  AreAlikeAt ps qs = (x y : PackageNv × PackagePublicRanges) → Contains ps x → Contains qs y → nv_of x.0 ≡ nv_of y.0 →
      (ans bs : List Answer) → IsAnswered k.graph k.root_symbol first_alone x.1 ans → IsAnswered l.graph l.root_symbol first_alone y.1 bs →
      Each R ans bs

  all_alike : (ps qs : Packages) → map nv_of (map (λ e. e.0) ps) ≡ map nv_of (map (λ e. e.0) qs) → AreAlikeAt ps qs →
      (ans bs : List Answer) → AreAnswered k.graph k.root_symbol first_alone ps ans → AreAnswered l.graph l.root_symbol first_alone qs bs →
      Each R ans bs
  all_alike [] [] e h ans bs i j = both (Each R) i j tt
  all_alike (p ∷ ps) (q ∷ qs) e h ans bs i j =
      let s = heads_are (nv_of p.0) (nv_of q.0) (map nv_of (map (λ x. x.0) ps)) (map nv_of (map (λ x. x.0) qs)) e in
      both (Each R) i.2 j.2
      (each_append R i.0 j.0 i.1 j.1 (h p q (first p p ps refl) (first q q qs refl) s.0 i.0 j.0 i.3 j.3)
      (all_alike ps qs s.1 (λ x y c d. h x y (later p ps x c) (later q qs y d)) i.1 j.1 i.4 j.4))
  all_alike [] (q ∷ qs) e h ans bs i j = absurd (none e)
    where
      none : [] ≡ map nv_of (map (λ (x : PackageNv × PackagePublicRanges). x.0) (q ∷ qs)) → ⊥
      none n = cc
  all_alike (p ∷ ps) [] e h ans bs i j = absurd (none e)
    where
      none : map nv_of (map (λ (x : PackageNv × PackagePublicRanges). x.0) (p ∷ ps)) ≡ [] → ⊥
      none n = cc

pub builds_alike : (k l : Known) (roots : List Nv) (renames : SymbolRenaming) (moves : Renamings) (first_alone : Bool)
    (answers_k answers_l : List Answer) → DifferHiddenly k l roots renames moves →
    (built_k : IsBuilt k roots first_alone answers_k) → IsBuilt l roots first_alone answers_l →
    HaveVersions moves k l built_k.ranges → Each (SameBuilt k moves) answers_k answers_l
builds_alike k l roots renames moves first_alone answers_k answers_l differ built_k built_l versions =
    let t = to k l roots renames moves first_alone built_k.ranges built_l.ranges differ built_k.found built_l.found versions
    built_k.packages_in_order built_l.packages_in_order in
    let f = from k l roots renames moves first_alone built_k.ranges built_l.ranges differ built_k.found built_l.found versions
    built_k.packages_in_order built_l.packages_in_order in
    all_alike k l first_alone (SameBuilt k moves) built_k.ranges.entries built_l.ranges.entries
    (same_packages built_k.found.yields built_l.found.yields t f built_k.ranges built_l.ranges built_k.found.says built_l.found.says
    built_k.packages_in_order built_l.packages_in_order)
    (package_alike k l roots renames moves first_alone built_k.ranges built_l.ranges differ built_k.found built_l.found versions
    built_k.packages_in_order built_l.packages_in_order)
    answers_k answers_l built_k.answered built_l.answered
