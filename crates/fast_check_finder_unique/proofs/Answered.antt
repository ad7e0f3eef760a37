-- Answers that list the same, since their accounts yield the same.
use Rattle.std.proofs.Common.{◌≡◌, ◌∙◌, refl, sym, ap, subst, true, List, [], ◌∷◌, Option, Some, None, arith}
use Rattle.std.specs.Option.{option_and_then}
use Rattle.std.specs.List.{Contains, list_any, flat_map}
use Rattle.std.specs.Str.{bytes_eq}
use Rattle.std.proofs.lemmas.Option.{none-some}
use Rattle.url.specs.Parts.{Parts}
use Rattle.fast_check_tree_syntax.specs.declared.source.SourceRange.{SourceRange}
use Rattle.fast_check_tables_packages.specs.Package.{Nv}
use Rattle.fast_check_tables_cache.specs.Cache.{ItemView}
use Rattle.fast_check_tables_cache.specs.declared.package_ranges.PackagePublicRanges.{PackagePublicRanges}
use Rattle.fast_check_tables_diagnostics.specs.PublicRanges.{PublicRanges, same_range}
use Rattle.fast_check_tables_symbols.proofs.Witness.{witness as any_some, present as in_any}
use Rattle.fast_check_finder_demands.specs.asked.Demands.{Text, same_nv}
use Rattle.fast_check_finder_demands.proofs.Elements.{no_element, in_flat, of_flat, in_filter, of_filter}
use Rattle.fast_check_finder_ranges.specs.Answers.{AreAnswers, StandsFor, IsModuleAnswer, IsPackageAnswer, IsAnswerBy, IsFollowedAnswer}
use Rattle.fast_check_finder_ranges.specs.Answers.{AreSame, about, about_module, modules_of, items_of, lookup_text, lookup_package, package_of}
use Rattle.fast_check_finder_ranges.specs.findings.Yields.{Yield, known_package, entry_point, refused_export, dependency, recorded, public, implementing, faulty, cached}
use Rattle.fast_check_finder_unique.specs.Answers.{Answers, Lists}

pub none_there : {X : Type 0} (xs : List X) → ((x : X) → Contains xs x → ⊥) → xs ≡ []
none_there [] h = refl
none_there (x ∷ xs) h = absurd (h x (0, omega arith, refl))

pub emptied : {X : Type 0} (xs : List X) (x : X) → Contains xs x → xs ≡ [] → ⊥
emptied {X} xs x c e = no_element x (subst (λ (ys : List X). Contains ys x) e c)

-- an item that is used
pub is_cached : (y : Yield) (x : List Parts × ItemView) → Contains (items_of y) x → (P : Yield → Type 0) →
    ((nv : Nv) (entry_points : List Parts) (item : ItemView) → P (cached nv entry_points item)) → P y
is_cached (known_package nv) x c P h = absurd (no_element x c)
is_cached (entry_point nv t) x c P h = absurd (no_element x c)
is_cached (refused_export nv t) x c P h = absurd (no_element x c)
is_cached (dependency nv d) x c P h = absurd (no_element x c)
is_cached (recorded nv t) x c P h = absurd (no_element x c)
is_cached (public nv t r) x c P h = absurd (no_element x c)
is_cached (implementing nv t r) x c P h = absurd (no_element x c)
is_cached (faulty nv t f) x c P h = absurd (no_element x c)
is_cached (cached nv entry_points item) x c P h = h nv entry_points item

-- where the answer has a module, no item is used
no_item : (t : Text) (m : PublicRanges) (ys : List Yield) (p : PackagePublicRanges) → lookup_text t p.module_ranges.entries ≡ Some m →
    (items : List (List Parts × ItemView)) → IsAnswerBy items ys p → (items ≡ []) × IsFollowedAnswer ys p
no_item t m ys p e [] s = (refl, s)
no_item t m ys p e (i ∷ items) s =
    absurd (none-some m (sym (ap (λ es. lookup_text t es) s.2.nothing_else) ∙ e))

module _ (these : PublicRanges → List SourceRange) (of : Yield → List SourceRange)
    (says : (t : Text) (ys : List Yield) (m : PublicRanges) → IsModuleAnswer t ys m → AreSame same_range (these m) (flat_map of ys)) where
  -- a listed range comes from a yield
  pub record IsYielded (ys : List Yield) (nv : Nv) (t : Text) (r : SourceRange) : Type 0 where
    pub no_items : flat_map items_of (about nv ys) ≡ []
    pub yield : Yield
    pub among : Contains ys yield
    pub of_package : same_nv nv (package_of yield) ≡ true
    pub of_module : list_any (bytes_eq t) (modules_of yield) ≡ true
    pub range : SourceRange
    pub gives : Contains (of yield) range
    pub same : same_range r range ≡ true

  yielded : (ys : List Yield) (answers : Answers) → AreAnswers ys answers → (nv : Nv) (t : Text) (r : SourceRange) →
      Lists these answers nv t r → IsYielded ys nv t r
  yielded ys answers are nv t r (m, e, h) = by (lookup_package nv answers.entries) (are nv) e
    where
      of_module_answer : (p : PackagePublicRanges) → lookup_text t p.module_ranges.entries ≡ Some m →
          (flat_map items_of (about nv ys) ≡ []) × IsFollowedAnswer (about nv ys) p → IsYielded ys nv t r
      of_module_answer p i (none, f) =
          let stands = subst (λ (o : Option PublicRanges). StandsFor (IsModuleAnswer t) (about_module t (about nv ys)) o) i (f.modules t) in
          let w = any_some (same_range r) (flat_map of (about_module t (about nv ys)))
          (sym (says t (about_module t (about nv ys)) m stands.1 r) ∙ h) in
          let y = of_flat of (about_module t (about nv ys)) w.0 w.1 in
          let in_module = of_filter (λ z. list_any (bytes_eq t) (modules_of z)) (about nv ys) y.0 y.1 in
          let in_package = of_filter (λ z. same_nv nv (package_of z)) ys y.0 in_module.0 in
          record {
            no_items = none;
            yield = y.0;
            among = in_package.0;
            of_package = in_package.1;
            of_module = in_module.1;
            range = w.0;
            gives = y.2;
            same = w.2;
          }

      by : (o : Option PackagePublicRanges) → StandsFor IsPackageAnswer (about nv ys) o →
          option_and_then (λ p. lookup_text t p.module_ranges.entries) o ≡ Some m → IsYielded ys nv t r
      by None s i = absurd (none-some m i)
      by (Some p) s i = of_module_answer p i (no_item t m (about nv ys) p i (flat_map items_of (about nv ys)) s.1)

  -- and a range that is yielded is listed
  listed : (ys : List Yield) (answers : Answers) → AreAnswers ys answers → (nv : Nv) (t : Text) (r : SourceRange) →
      IsYielded ys nv t r → Lists these answers nv t r
  listed ys answers are nv t r y = by (lookup_package nv answers.entries) refl (are nv)
    where
      here : Contains (about nv ys) y.yield
      here = in_filter (λ z. same_nv nv (package_of z)) ys y.yield y.among y.of_package

      there : Contains (about_module t (about nv ys)) y.yield
      there = in_filter (λ z. list_any (bytes_eq t) (modules_of z)) (about nv ys) y.yield here y.of_module

      of_module_answer : (p : PackagePublicRanges) → lookup_package nv answers.entries ≡ Some p → (o : Option PublicRanges) →
          lookup_text t p.module_ranges.entries ≡ o → StandsFor (IsModuleAnswer t) (about_module t (about nv ys)) o →
          Lists these answers nv t r
      of_module_answer p e None i s = absurd (emptied (about_module t (about nv ys)) y.yield there s)
      of_module_answer p e (Some m) i s = (
        m,
        ap (λ (o : Option PackagePublicRanges). option_and_then (λ q. lookup_text t q.module_ranges.entries) o) e ∙ i,
        says t (about_module t (about nv ys)) m s.1 r
            ∙ in_any (same_range r) (flat_map of (about_module t (about nv ys))) y.range
            (in_flat of (about_module t (about nv ys)) y.yield y.range there y.gives) y.same,
      )

      by : (o : Option PackagePublicRanges) → lookup_package nv answers.entries ≡ o → StandsFor IsPackageAnswer (about nv ys) o →
          Lists these answers nv t r
      by None e s = absurd (emptied (about nv ys) y.yield here s)
      by (Some p) e s =
          let f = subst (λ (items : List (List Parts × ItemView)). IsAnswerBy items (about nv ys) p) y.no_items s.1 in
          of_module_answer p e (lookup_text t p.module_ranges.entries) refl (f.modules t)

  pub listed_alike : (ys zs : List Yield) (a b : Answers) → AreAnswers ys a → AreAnswers zs b →
      ((y : Yield) (x : SourceRange) → Contains (of y) x → Contains ys y → Contains zs y) →
      ((y : Yield) (x : List Parts × ItemView) → Contains (items_of y) x → Contains zs y → Contains ys y) →
      (nv : Nv) (t : Text) (r : SourceRange) → Lists these a nv t r → Lists these b nv t r
  listed_alike ys zs a b in_a in_b ranged used nv t r h =
      let y = yielded ys a in_a nv t r h in
      listed zs b in_b nv t r (record {
        no_items = none_there (flat_map items_of (about nv zs)) (λ x c.
            let z = of_flat items_of (about nv zs) x c in
            let there = of_filter (λ w. same_nv nv (package_of w)) zs z.0 z.1 in
            emptied (flat_map items_of (about nv ys)) x
            (in_flat items_of (about nv ys) z.0 x
            (in_filter (λ w. same_nv nv (package_of w)) ys z.0 (used z.0 x z.2 there.0) there.1) z.2) y.no_items);
        yield = y.yield;
        among = ranged y.yield y.range y.gives y.among;
        of_package = y.of_package;
        of_module = y.of_module;
        range = y.range;
        gives = y.gives;
        same = y.same;
      })
