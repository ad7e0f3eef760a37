-- The answer of a package, and of packages one by one.
use Rattle.std.proofs.Common.{◌≡◌, ◌∙◌, refl, sym, ap, subst, Bool, true, false, cond, ◌||◌, List, [], ◌∷◌, ◌++◌, map, Option, Some, None}
use Rattle.std.proofs.Common.{append-nil, ⊎_elim, arith}
use Rattle.std.specs.List.{list_any, flat_map, AllByRecursion, IsDistinct}
use Rattle.std.specs.Map.{keys_of}
use Rattle.std.specs.BTreeMap.{BTreeMap}
use Rattle.std.specs.BTreeMap as tree
use Rattle.std.specs.Str.{bytes_eq}
use Rattle.std.proofs.lemmas.Bool.{cases_Bool, false≢true}
use Rattle.std.proofs.lemmas.List.Concat.{flat_map-append}
use Rattle.std.proofs.lemmas.List.Elements.{filter-append}
use Rattle.std.proofs.lemmas.List.Folds.{list_any-append}
use Rattle.std.proofs.lemmas.Map.Keys.{IsDistinct-head, IsDistinct-tail}
use Rattle.url.specs.Parts.{Parts, serialize}
use Rattle.fast_check_tables_packages.specs.Package.{Nv, nv_of}
use Rattle.fast_check_tables_packages.specs.PackageOrder.{nv_ties}
use Rattle.fast_check_tables_packages.specs.Packages.{package_cmp}
use Rattle.fast_check_tables_packages.specs.declared.package.PackageNv.{PackageNv}
use Rattle.fast_check_tables_packages.specs.contracts.package.PackageNvPartialEq.TheImpl as package_eq
use Rattle.fast_check_tables_cache.specs.Cache.{ItemView}
use Rattle.fast_check_tables_cache.specs.declared.package_ranges.PackagePublicRanges.{PackagePublicRanges}
use Rattle.fast_check_finder_demands.specs.asked.Demands.{same_nv}
use Rattle.fast_check_finder_ranges.specs.findings.Found.{package_yields}
use Rattle.fast_check_finder_ranges.specs.findings.Yields.{Yield}
use Rattle.fast_check_finder_ranges.specs.declared.findings.found.FoundPackage.{FoundPackage}
use Rattle.fast_check_finder_ranges.proofs.findings.Lists.{any_map}
use Rattle.fast_check_finder_ranges.specs.Answers.{package_of, about, is_filled, StandsFor}
use Rattle.fast_check_finder_ranges.specs.Answers.{lookup_package, IsItemAnswer, IsAnswerBy, IsPackageAnswer}
use Rattle.fast_check_finder_ranges.specs.Parts.{is_package, urls_at, item_at, named_at, yields_at, AreAnswered, IsAdded}
use Rattle.fast_check_finder_ranges.proofs.About.{of_package}
use Rattle.fast_check_finder_ranges.proofs.Followed.{all_points, all_dependencies, all_items, no_refusals}
use Rattle.fast_check_finder_ranges.proofs.Lists.{not_filled}
use Rattle.fast_check_finder_ranges.proofs.Maps.{package_one, package_total, lookup_after}

module _ (packages : List Nv) (nv : Nv) (p : FoundPackage) where
  abbrev Y : List Yield
  Y = package_yields packages nv p

  filled_item : (answer : PackagePublicRanges) → IsItemAnswer (urls_at p.entrance) (item_at p.entrance) answer →
      is_filled answer.cache_items.items ≡ is_filled (item_at p.entrance).1
  filled_item answer a = go _ answer.cache_items.items (item_at p.entrance).1 a.modules_are
    where
      go : {X Z : Type 0} (f : X → Z) (xs : List X) (zs : List Z) → map f xs ≡ zs → is_filled xs ≡ is_filled zs
      go f [] zs e = ap is_filled e
      go f (x ∷ xs) zs e = ap is_filled e

  -- the item is used
  pub by_item : (answer : PackagePublicRanges) → IsItemAnswer (urls_at p.entrance) (item_at p.entrance) answer →
      is_filled answer.cache_items.items ≡ true → IsPackageAnswer Y answer
  by_item answer a h = subst (λ (is : List (List Parts × ItemView)). IsAnswerBy is Y answer)
      (sym (all_items packages nv p ∙ ap (λ b. cond b ((urls_at p.entrance, item_at p.entrance) ∷ []) []) (sym (filled_item answer a) ∙ h)))
      ((urls_at p.entrance, item_at p.entrance), (0, omega arith, refl), a)

  -- or what was found is answered
  pub by_parts : (start answer : PackagePublicRanges) → IsItemAnswer (urls_at p.entrance) (item_at p.entrance) start →
      is_filled start.cache_items.items ≡ false → answer.entrypoints.keys ≡ start.entrypoints.keys →
      answer.cache_items.items ≡ start.cache_items.items →
      ((d : Nv) → list_any (is_package d) answer.dependencies.keys ≡
      (list_any (is_package d) start.dependencies.keys || list_any (same_nv d) (named_at packages p.dependencies.items))) →
      AreAnswered Y answer.module_ranges.entries → IsPackageAnswer Y answer
  by_parts start answer a n points items depends modules = subst (λ (is : List (List Parts × ItemView)). IsAnswerBy is Y answer)
      (sym (all_items packages nv p ∙ ap (λ b. cond b ((urls_at p.entrance, item_at p.entrance) ∷ []) []) (sym (filled_item start a) ∙ n)))
      (record {
        entry_points = λ t. ap (λ xs. list_any (bytes_eq t) (map serialize xs)) (points ∙ a.entry_points_are)
            ∙ ap (list_any (bytes_eq t)) (sym (all_points packages nv p));
        dependencies = λ d. any_map (same_nv d) nv_of answer.dependencies.keys ∙ (depends d
            ∙ (ap (λ b. b || list_any (same_nv d) (named_at packages p.dependencies.items))
            (sym (any_map (same_nv d) nv_of start.dependencies.keys) ∙ ap (list_any (same_nv d)) a.dependencies_are)
            ∙ (sym (list_any-append (same_nv d) (item_at p.entrance).0 (named_at packages p.dependencies.items))
            ∙ ap (list_any (same_nv d)) (sym (all_dependencies packages nv p)))));
        modules = modules;
        uncached = items ∙ not_filled start.cache_items.items n;
        not_refused = no_refusals packages nv p;
      })

-- packages one by one

-- those before one differ from it
module _ {K X : Type 0} (eq : K → K → Bool) where
  at_middle : (P : K → Type 0) (xs : List (K × X)) (x : K × X) (rest : List (K × X)) → AllByRecursion P (keys_of (xs ++ x ∷ rest)) → P x.0
  at_middle P [] x rest a = a.0
  at_middle P (y ∷ xs) x rest a = at_middle P xs x rest a.1

  pub differ : (xs : List (K × X)) (x : K × X) (rest : List (K × X)) → IsDistinct eq (keys_of (xs ++ x ∷ rest)) →
      AllByRecursion (λ y. eq y.0 x.0 ≡ false) xs
  differ [] x rest d = tt
  differ (y ∷ xs) x rest d = (
    at_middle (λ k. eq y.0 k ≡ false) xs x rest (IsDistinct-head eq y.0 (keys_of (xs ++ x ∷ rest)) d),
    differ xs x rest (IsDistinct-tail eq y.0 (keys_of (xs ++ x ∷ rest)) d),
  )

abbrev pub Found : Type 0
Found = PackageNv × FoundPackage

module _ (packages : List Nv) (nv : Nv) where
  about_found : (xs ys : List Yield) → about nv (xs ++ ys) ≡ about nv xs ++ about nv ys
  about_found xs ys = filter-append (λ y. same_nv nv (package_of y)) xs ys

  about_one : (x : Found) → about nv (yields_at packages x) ≡ cond (is_package nv x.0) (yields_at packages x) []
  about_one x = of_package packages (nv_of x.0) nv x.1

  none_before : (xs : List Found) → AllByRecursion (λ y. is_package nv y.0 ≡ false) xs → about nv (flat_map (yields_at packages) xs) ≡ []
  none_before [] a = refl
  none_before (x ∷ xs) a = about_found (yields_at packages x) (flat_map (yields_at packages) xs)
      ∙ (ap (λ ys. ys ++ about nv (flat_map (yields_at packages) xs))
      (about_one x ∙ ap (λ b. cond b (yields_at packages x) []) a.0) ∙ none_before xs a.1)

  others : (x : PackageNv) → is_package nv x ≡ true → (xs : List Found) → AllByRecursion (λ y. package_eq.eq-value.it y.0 x ≡ false) xs →
      AllByRecursion (λ y. is_package nv y.0 ≡ false) xs
  others x h [] a = tt
  others x h (y ∷ ys) a = (
    ⊎_elim
        (λ yes. absurd (false≢true (sym a.0 ∙ (nv_ties y.0 x ∙ (sym (package_one nv y.0 x yes) ∙ h)))))
        (λ no. no)
        (cases_Bool (is_package nv y.0)),
    others x h ys a.1,
  )

  -- an answer that stands for nothing is none
  none_stands : (ys : List Yield) (o : Option PackagePublicRanges) → ys ≡ [] → StandsFor IsPackageAnswer ys o → o ≡ None
  none_stands ys None e a = refl
  none_stands ys (Some p) e a = absurd (false≢true (sym (ap is_filled e) ∙ a.0))

  pub added : (xs : List Found) (x : Found) (old new : List (PackageNv × PackagePublicRanges)) → IsAdded packages x old new →
      AllByRecursion (λ y. package_eq.eq-value.it y.0 x.0 ≡ false) xs →
      StandsFor IsPackageAnswer (about nv (flat_map (yields_at packages) xs)) (lookup_package nv old) →
      StandsFor IsPackageAnswer (about nv (flat_map (yields_at packages) (xs ++ x ∷ []))) (lookup_package nv new)
  added xs x old new is apart a = ⊎_elim
      (λ yes.
      let none : about nv (flat_map (yields_at packages) xs) ≡ [] = none_before xs (others x.0 yes xs apart) in
      subst (λ (ys : List Yield). StandsFor IsPackageAnswer ys (lookup_package nv new))
      (sym (more ∙ (ap (λ ys. ys ++ about nv (yields_at packages x)) none
      ∙ (about_one x ∙ ap (λ b. cond b (yields_at packages x) []) yes))))
      (is.stands nv (nv_of x.0) yes (none_stands (about nv (flat_map (yields_at packages) xs)) (lookup_package nv old) none a)))
      (λ no. subst (λ (o : Option PackagePublicRanges). StandsFor IsPackageAnswer (about nv (flat_map (yields_at packages) (xs ++ x ∷ []))) o)
      (sym (is.stays nv no))
      (subst (λ (ys : List Yield). StandsFor IsPackageAnswer ys (lookup_package nv old))
      (sym (more ∙ (ap (λ ys. about nv (flat_map (yields_at packages) xs) ++ ys)
      (about_one x ∙ ap (λ b. cond b (yields_at packages x) []) no) ∙ append-nil (about nv (flat_map (yields_at packages) xs))))) a))
      (cases_Bool (is_package nv x.0))
    where
      more : about nv (flat_map (yields_at packages) (xs ++ x ∷ [])) ≡
          about nv (flat_map (yields_at packages) xs) ++ about nv (yields_at packages x)
      more = ap (about nv) (flat_map-append (yields_at packages) xs (x ∷ [])
          ∙ ap (λ ys. flat_map (yields_at packages) xs ++ ys) (append-nil (yields_at packages x)))
          ∙ about_found (flat_map (yields_at packages) xs) (yields_at packages x)

-- the answer of one more
pub is_passed : (packages : List Nv) (x : Found) (old : List (PackageNv × PackagePublicRanges)) →
    ((q : Nv) → is_filled (package_yields packages q x.1) ≡ false) → IsAdded packages x old old
is_passed packages x old n = record {
  stays = λ nv no. refl;
  stands = λ nv q yes none. subst (λ (o : Option PackagePublicRanges). StandsFor IsPackageAnswer (package_yields packages q x.1) o) (sym none)
      (not_filled (package_yields packages q x.1) (n q));
}

pub is_put : (packages : List Nv) (x : Found) (old new : BTreeMap PackageNv PackagePublicRanges) (answer : PackagePublicRanges) →
    ((q : Nv) → is_filled (package_yields packages q x.1) ≡ true) → ((q : Nv) → IsPackageAnswer (package_yields packages q x.1) answer) →
    tree.UpdatesBy package_cmp (package_cmp x.0) old new (Some answer) → IsAdded packages x old.entries new.entries
is_put packages x old new answer filled is u = record {
  stays = λ nv no. lookup_after package_total (is_package nv) (package_one nv) x.0 old new (Some answer) u
      ∙ ap (λ b. cond b (Some answer) (lookup_package nv old.entries)) no;
  stands = λ nv q yes none. subst (λ (o : Option PackagePublicRanges). StandsFor IsPackageAnswer (package_yields packages q x.1) o)
      (sym (lookup_after package_total (is_package nv) (package_one nv) x.0 old new (Some answer) u
      ∙ ap (λ b. cond b (Some answer) (lookup_package nv old.entries)) yes))
      (filled q, is q);
}
