-- Two inputs in lockstep have the same packages, modules and entry points.
use Rattle.std.proofs.Common.{◌≡◌, ◌∙◌, sym, ap, refl, subst, true, List, [], ◌∷◌, map, Option, Some, None}
use Rattle.std.specs.List.{Contains, list_any, flat_map}
use Rattle.std.specs.Str.{bytes_eq}
use Rattle.std.specs.Ordering.{nat_cmp}
use Rattle.std.specs.Cmp.Lexicographic.{slice_cmp, nat_list_cmp_total}
use Rattle.std.specs.BTreeMap.{keys, IsOrdered}
use Rattle.std.specs.BTreeSet.{IsOrdered as IsOrderedSet}
use Rattle.std.proofs.lemmas.Bool.{false≢true}
use Rattle.std.proofs.lemmas.Option.{none-some}
use Rattle.url.specs.Parts.{Parts, serialize}
use Rattle.fast_check_tables_packages.specs.Package.{Nv, nv_of, nv_cmp}
use Rattle.fast_check_tables_packages.specs.PackageOrder.{nv_total}
use Rattle.fast_check_tables_packages.specs.declared.package.PackageNv.{PackageNv}
use Rattle.fast_check_tables_cache.specs.declared.package_ranges.PackagePublicRanges.{PackagePublicRanges}
use Rattle.fast_check_tables_symbols.proofs.Witness.{witness as any_some, present as in_any}
use Rattle.fast_check_finder_demands.specs.asked.Demands.{Text, same_nv}
use Rattle.fast_check_finder_demands.proofs.Elements.{first, in_flat, of_flat, in_filter, of_filter}
use Rattle.fast_check_finder_demands.proofs.asked.Taken.{bytes_same}
use Rattle.fast_check_finder_ranges.specs.Answers.{AreAnswers, StandsFor, IsPackageAnswer, IsFollowedAnswer, IsModuleAnswer, is_filled}
use Rattle.fast_check_finder_ranges.specs.Answers.{about, about_module, package_of, modules_of, entry_points_of, lookup_text, lookup_package}
use Rattle.fast_check_finder_ranges.specs.findings.Yields.{Yield}
use Rattle.fast_check_finder_loop.proofs.Accounted.{text_is, nv_itself}
use Rattle.fast_check_finder_loop.proofs.Places.{nv_is}
use Rattle.fast_check_build_answers.specs.Answered.{by_text, by_nv}
use Rattle.fast_check_finder_unique.proofs.Answered.{emptied}
use Rattle.fast_check_build_unique.specs.Modules.{Found}
use Rattle.fast_check_build_unique.proofs.Alike.{Alike}
use Rattle.fast_check_build_unique.proofs.Sorted.{same_sorted, sorted_map, of_keys, in_keys}

filled : {X : Type 0} (xs : List X) → is_filled xs ≡ true → (x : X) × Contains xs x
filled [] h = absurd (false≢true h)
filled (x ∷ xs) h = (x, first x x xs refl)

stands_filled : {X : Type 0} (P : List Yield → X → Type 0) (ys : List Yield) (o : Option X) (x : X) → StandsFor P ys o → o ≡ Some x →
    (y : Yield) × Contains ys y
stands_filled P ys None x s e = absurd (none-some x e)
stands_filled P ys (Some z) x s e = filled ys s.0

stands_there : {X : Type 0} (P : List Yield → X → Type 0) (zs : List Yield) (o : Option X) → StandsFor P zs o → (z : Yield) → Contains zs z →
    (x : X) × (o ≡ Some x)
stands_there P zs None s z c = absurd (emptied zs z c s)
stands_there P zs (Some x) s z c = (x, refl)

has_text : (ts : List Text) (t u : Text) → bytes_eq t u ≡ true → Contains ts u → Contains ts t
has_text ts t u h c = subst (λ (v : Text). Contains ts v) (sym (text_is t u h)) c

abbrev pub packages_of : Found → List Nv
packages_of found = map nv_of (keys found)

abbrev pub module_texts : PackagePublicRanges → List Text
module_texts p = map serialize (keys p.module_ranges)

abbrev pub entry_texts : PackagePublicRanges → List Text
entry_texts p = map serialize p.entrypoints.keys

-- each yield of the one corresponds to a yield of the other
abbrev pub IsShown : List Yield → List Yield → Type 0
IsShown ys zs = (y : Yield) → Contains ys y → (z : Yield) × Alike y z × Contains zs z

module _ (ys zs : List Yield) (to : IsShown ys zs) (nv : Nv) where
  about_to : IsShown (about nv ys) (about nv zs)
  about_to y c =
      let m = of_filter (λ x. same_nv nv (package_of x)) ys y c in
      let z = to y m.0 in (
        z.0,
        z.1,
        in_filter (λ x. same_nv nv (package_of x)) zs z.0 z.2 (ap (λ p. same_nv nv p) (sym z.1.its_package) ∙ m.1),
      )

  module_to : (t : Text) → IsShown (about_module t (about nv ys)) (about_module t (about nv zs))
  module_to t y c =
      let m = of_filter (λ x. list_any (bytes_eq t) (modules_of x)) (about nv ys) y c in
      let z = about_to y m.0 in (
        z.0,
        z.1,
        in_filter (λ x. list_any (bytes_eq t) (modules_of x)) (about nv zs) z.0 z.2
            (ap (λ (ts : List Text). list_any (bytes_eq t) ts) (sym z.1.modules) ∙ m.1),
      )

  passes_nv : (k : PackageNv) → nv_of k ≡ nv → same_nv nv (nv_of k) ≡ true
  passes_nv k e = ap (λ p. same_nv nv p) e ∙ nv_itself nv

  packages_to : (a b : Found) → AreAnswers ys a → AreAnswers zs b → Contains (packages_of a) nv → Contains (packages_of b) nv
  packages_to a b in_a in_b c =
      let p = of_keys nv_of nv (λ k. same_nv nv (nv_of k)) passes_nv a.entries c in
      let y = stands_filled IsPackageAnswer (about nv ys) (lookup_package nv a.entries) p.0 (in_a nv) p.1 in
      let z = about_to y.0 y.1 in
      let q = stands_there IsPackageAnswer (about nv zs) (lookup_package nv b.entries) (in_b nv) z.0 z.2 in
      in_keys nv_of nv (λ k. same_nv nv (nv_of k)) (λ k h. sym (nv_is nv (nv_of k) h)) b.entries q.0 q.1

  module _ (p q : PackagePublicRanges) (in_p : IsFollowedAnswer (about nv ys) p) (in_q : IsFollowedAnswer (about nv zs) q) (t : Text) where
    passes_text : (k : Parts) → serialize k ≡ t → bytes_eq t (serialize k) ≡ true
    passes_text k e = ap (λ (u : Text). bytes_eq t u) e ∙ bytes_same t

    modules_to : Contains (module_texts p) t → Contains (module_texts q) t
    modules_to c =
        let m = of_keys serialize t (λ k. bytes_eq t (serialize k)) passes_text p.module_ranges.entries c in
        let y = stands_filled (IsModuleAnswer t) (about_module t (about nv ys)) (lookup_text t p.module_ranges.entries) m.0 (in_p.modules t)
        m.1 in
        let z = module_to t y.0 y.1 in
        let n = stands_there (IsModuleAnswer t) (about_module t (about nv zs)) (lookup_text t q.module_ranges.entries) (in_q.modules t)
        z.0 z.2 in
        in_keys serialize t (λ k. bytes_eq t (serialize k)) (λ k h. sym (text_is t (serialize k) h)) q.module_ranges.entries n.0 n.1

    entries_to : Contains (entry_texts p) t → Contains (entry_texts q) t
    entries_to c =
        let w = any_some (bytes_eq t) (flat_map entry_points_of (about nv ys))
        (sym (in_p.entry_points t) ∙ in_any (bytes_eq t) (entry_texts p) t c (bytes_same t)) in
        let y = of_flat entry_points_of (about nv ys) w.0 w.1 in
        let z = about_to y.0 y.1 in
        let given = subst (λ (ts : List Text). Contains ts w.0) z.1.entry_points y.2 in
        let v = any_some (bytes_eq t) (entry_texts q)
        (in_q.entry_points t ∙ in_any (bytes_eq t) (flat_map entry_points_of (about nv zs)) w.0
        (in_flat entry_points_of (about nv zs) z.0 w.0 z.2 given) w.2) in
        has_text (entry_texts q) t v.0 v.2 v.1

module _ (ys zs : List Yield) (to : IsShown ys zs) (from : IsShown zs ys) where
  pub same_packages : (a b : Found) → AreAnswers ys a → AreAnswers zs b → IsOrdered by_nv a → IsOrdered by_nv b →
      packages_of a ≡ packages_of b
  same_packages a b in_a in_b order_a order_b = same_sorted nv_cmp nv_total (packages_of a) (packages_of b)
      (sorted_map nv_of nv_cmp (keys a) order_a) (sorted_map nv_of nv_cmp (keys b) order_b)
      (λ nv c. packages_to ys zs to nv a b in_a in_b c) (λ nv c. packages_to zs ys from nv b a in_b in_a c)

  module _ (nv : Nv) (p q : PackagePublicRanges) (in_p : IsFollowedAnswer (about nv ys) p) (in_q : IsFollowedAnswer (about nv zs) q) where
    pub same_modules : IsOrdered by_text p.module_ranges → IsOrdered by_text q.module_ranges → module_texts p ≡ module_texts q
    same_modules order_p order_q = same_sorted (slice_cmp nat_cmp) nat_list_cmp_total (module_texts p) (module_texts q)
        (sorted_map serialize (slice_cmp nat_cmp) (keys p.module_ranges) order_p)
        (sorted_map serialize (slice_cmp nat_cmp) (keys q.module_ranges) order_q)
        (λ t c. modules_to ys zs to nv p q in_p in_q t c) (λ t c. modules_to zs ys from nv q p in_q in_p t c)

    pub same_entries : IsOrderedSet by_text p.entrypoints → IsOrderedSet by_text q.entrypoints → entry_texts p ≡ entry_texts q
    same_entries order_p order_q = same_sorted (slice_cmp nat_cmp) nat_list_cmp_total (entry_texts p) (entry_texts q)
        (sorted_map serialize (slice_cmp nat_cmp) p.entrypoints.keys order_p)
        (sorted_map serialize (slice_cmp nat_cmp) q.entrypoints.keys order_q)
        (λ t c. entries_to ys zs to nv p q in_p in_q t c) (λ t c. entries_to zs ys from nv q p in_q in_p t c)
