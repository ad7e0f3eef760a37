-- What is public in the modules of packages is declared in them.
use Rattle.std.proofs.Common.{◌≡◌, ◌∙◌, ap, refl, subst, Bool, true, List, [], ◌∷◌, ◌++◌, Option, Some, None}
use Rattle.std.specs.Prelude.{IfSome}
use Rattle.std.specs.Option.{option_and_then}
use Rattle.std.specs.List.{Contains, AllByRecursion}
use Rattle.std.specs.Map.{lookup, IsKeyTest}
use Rattle.std.specs.BTreeMap.{BTreeMap, keys, IsOrdered}
use Rattle.std.specs.Ordering.{eq_by_cmp}
use Rattle.std.specs.Cmp.{IsTotalOrder, eq_by_cmp_equiv}
use Rattle.std.specs.Cmp.Lexicographic.{nat_list_eq_equiv}
use Rattle.std.specs.declared.cmp.Ordering.{Ordering}
use Rattle.std.proofs.lemmas.Map.Keys.{IsDistinct-from_sorted}
use Rattle.std.proofs.lemmas.Map.Views.{lookup-from_Contains}
use Rattle.url.specs.Parts.{Parts, serialize}
use Rattle.fast_check_tables_packages.specs.Package.{Nv, nv_of}
use Rattle.fast_check_tables_packages.specs.PackageOrder.{nv_total}
use Rattle.fast_check_tables_packages.specs.declared.package.PackageNv.{PackageNv}
use Rattle.fast_check_tables_modules.specs.diagnostics.PublicRanges.{PublicRanges}
use Rattle.fast_check_tables_graph.specs.declared.root_symbol.AnyModuleInfo.{AnyModuleInfo}
use Rattle.fast_check_tables_graph.specs.declared.root_symbol.AnyModuleInfo.TheVariants.{Esm, Json}
use Rattle.fast_check_tables_graph.specs.declared.root_symbol.RootSymbol.{RootSymbol}
use Rattle.fast_check_tables_graph.specs.Root.{found_module}
use Rattle.fast_check_tables_cache.specs.declared.package_ranges.PackagePublicRanges.{PackagePublicRanges}
use Rattle.fast_check_finder_demands.proofs.asked.Maps.{first_in, rest_in}
use Rattle.fast_check_finder_ranges.specs.Parts.{is_text, is_package}
use Rattle.fast_check_finder_ranges.specs.Answers.{lookup_text, lookup_package, module_answer}
use Rattle.fast_check_finder_ranges.proofs.Maps.{lookup_key, text_one, text_total, package_one, package_total}
use Rattle.fast_check_build_answers.specs.PackageFaults.{PublicModule}
use Rattle.fast_check_build_answers.specs.PackageAnswer.{TreeModule, with_tree, tree_modules, OwnsPublic, OwnsModule, OwnsAll}
use Rattle.fast_check_build_answers.specs.Answered.{by_text, by_nv}
use Rattle.fast_check_build_answers.specs.Owned.{IsOwned, AreOwned}
use Rattle.fast_check_finder_loop.specs.demands.facts.GraphFacts.{Known}
use Rattle.fast_check_finder_loop.specs.Own.{IsOwnRange}
use Rattle.fast_check_build.specs.Found.{OwnsRanges, IsFound}

-- an entry of a map is found by its own key
found_entry : {K X : Type 0} {cmp : K → K → Ordering} (o : IsTotalOrder cmp) (test : K → Bool) → IsKeyTest (eq_by_cmp cmp) test →
    (m : BTreeMap K X) →
    IsOrdered cmp m → (e : K × X) → Contains m.entries e → test e.0 ≡ true → lookup test m.entries ≡ Some e.1
found_entry {K} {X} {cmp} o test one m ordered e h t = lookup_key o test one e.0 m.entries t ∙
    lookup-from_Contains (eq_by_cmp_equiv o) e.0 e.1 m.entries (IsDistinct-from_sorted cmp (keys m) ordered) h

found_package : (m : BTreeMap PackageNv PackagePublicRanges) → IsOrdered by_nv m → (e : PackageNv × PackagePublicRanges) →
    Contains m.entries e →
    lookup_package (nv_of e.0) m.entries ≡ Some e.1
found_package m ordered e h = found_entry package_total (is_package (nv_of e.0)) (package_one (nv_of e.0)) m ordered e h
    ((eq_by_cmp_equiv nv_total).refl (nv_of e.0))

found_ranges : (m : BTreeMap Parts PublicRanges) → IsOrdered by_text m → (e : PublicModule) → Contains m.entries e →
    lookup_text (serialize e.0) m.entries ≡ Some e.1
found_ranges m ordered e h =
    found_entry text_total (is_text (serialize e.0)) (text_one (serialize e.0)) m ordered e h (nat_list_eq_equiv.refl (serialize e.0))

-- what holds of the trees of each module holds of all trees
all_trees : (root : RootSymbol) (ms : List PublicModule) → ((m : PublicModule) → Contains ms m → OwnsModule root m) → OwnsAll root ms
all_trees root [] h = tt
all_trees root (m ∷ ms) h = both (with_tree m (found_module root m.0)) (tree_modules root ms) (h m (first_in m ms))
    (all_trees root ms (λ x c. h x (rest_in m x ms c)))
  where
    both : (xs ys : List TreeModule) → AllByRecursion OwnsPublic xs → AllByRecursion OwnsPublic ys → AllByRecursion OwnsPublic (xs ++ ys)
    both [] ys h k = k
    both (x ∷ xs) ys h k = (h.0, both xs ys h.1 k)

module _ (k : Known) (roots : List Nv) (ranges : BTreeMap PackageNv PackagePublicRanges) (found : IsFound k roots ranges)
    (ordered : IsOrdered by_nv ranges) where
  -- the answer about a module of a package
  is_answered : (p : PackageNv × PackagePublicRanges) → Contains ranges.entries p → IsOrdered by_text p.1.module_ranges →
      (m : PublicModule) →
      Contains p.1.module_ranges.entries m → module_answer ranges (nv_of p.0) (serialize m.0) ≡ Some m.1
  is_answered p c in_order m d =
      ap (option_and_then (λ (x : PackagePublicRanges). lookup_text (serialize m.0) x.module_ranges.entries)) (found_package ranges ordered p c)
      ∙ found_ranges p.1.module_ranges in_order m d

  owned_module : (p : PackageNv × PackagePublicRanges) → Contains ranges.entries p → IsOrdered by_text p.1.module_ranges →
      (m : PublicModule) →
      Contains p.1.module_ranges.entries m → OwnsModule k.root_symbol m
  owned_module p c in_order m d = go (found_module k.root_symbol m.0) refl
    where
      go : (o : Option AnyModuleInfo) → found_module k.root_symbol m.0 ≡ o → AllByRecursion OwnsPublic (with_tree m o)
      go None e = tt
      go (Some (Json info)) e = tt
      go (Some (Esm info)) e = (
        λ r h. subst (λ (o : Option AnyModuleInfo). IsOwnRange o r) e
            ((subst (λ (o : Option PublicRanges). IfSome o (OwnsRanges k.root_symbol (serialize m.0))) (is_answered p c in_order m d)
            (found.own (nv_of p.0) (serialize m.0))).public r h),
        tt,
      )

  owned_packages : (ps : List (PackageNv × PackagePublicRanges)) →
      ((p : PackageNv × PackagePublicRanges) → Contains ps p → IsOwned k.root_symbol p.1) →
      AreOwned k.root_symbol ps
  owned_packages [] h = tt
  owned_packages (p ∷ ps) h = (h p (first_in p ps), owned_packages ps (λ x c. h x (rest_in p x ps c)))

  pub all_owned : AreOwned k.root_symbol ranges.entries
  all_owned = owned_packages ranges.entries
      (λ p c in_order. all_trees k.root_symbol p.1.module_ranges.entries (λ m d. owned_module p c in_order m d))
