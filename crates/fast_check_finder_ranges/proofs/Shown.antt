-- What is answered of a module is what a yield says of it.
use Rattle.std.proofs.Common.{◌≡◌, ◌∙◌, refl, sym, ap, subst, Bool, true, false, cond, ◌&&◌, ◌||◌, List, [], ◌∷◌, Option, Some, None, arith}
use Rattle.std.specs.Prelude.{IfSome}
use Rattle.std.specs.Cmp.Lexicographic.{bytes_decides}
use Rattle.std.specs.List.{list_any, filter, flat_map, Contains}
use Rattle.std.specs.Option.{option_and_then}
use Rattle.std.specs.Str.{bytes_eq}
use Rattle.std.specs.BTreeMap.{BTreeMap}
use Rattle.std.proofs.lemmas.Bool.{and_parts, false≢true}
use Rattle.std.proofs.lemmas.List.Elements.{Contains-append_right}
use Rattle.url.specs.Parts.{Parts}
use Rattle.fast_check_tree_syntax.specs.declared.source.SourceRange.{SourceRange}
use Rattle.fast_check_tables_packages.specs.Package.{Nv}
use Rattle.fast_check_tables_packages.specs.declared.package.PackageNv.{PackageNv}
use Rattle.fast_check_tables_packages.proofs.Found.{or_none}
use Rattle.fast_check_tables_cache.specs.Cache.{ItemView}
use Rattle.fast_check_tables_cache.specs.declared.package_ranges.PackagePublicRanges.{PackagePublicRanges}
use Rattle.fast_check_tables_diagnostics.specs.PublicRanges.{PublicRanges, same_range}
use Rattle.fast_check_finder_demands.specs.asked.Demands.{Text, same_nv}
use Rattle.fast_check_tables_modules.proofs.FaultsFound.{exact_range}
use Rattle.fast_check_finder_ranges.specs.findings.Yields.{Yield, known_package, entry_point, refused_export, dependency, recorded, public}
use Rattle.fast_check_finder_ranges.specs.findings.Yields.{implementing, faulty, cached}
use Rattle.fast_check_finder_ranges.specs.Answers.{package_of, modules_of, about, about_module, ranges_of, implementations_of, items_of}
use Rattle.fast_check_finder_ranges.specs.Answers.{StandsFor, lookup_text, lookup_package, IsModuleAnswer, IsAnswerBy}
use Rattle.fast_check_finder_ranges.specs.Answers.{IsPackageAnswer, AreAnswers, module_answer}
use Rattle.fast_check_tables_symbols.proofs.Witness.{any_inside as any_flat}

-- one that passes a test
record Witness {X : Type 0} (test : X → Bool) (xs : List X) : Type 0 where
  one : X
  among : Contains xs one
  passes : test one ≡ true

witness : {X : Type 0} (test : X → Bool) (xs : List X) → list_any test xs ≡ true → Witness test xs
witness test [] h = absurd (false≢true h)
witness {X} test (x ∷ xs) h = go (test x) refl (λ e. witness test xs e)
  where
    go : (b : Bool) → test x ≡ b → (list_any test xs ≡ true → Witness test xs) → Witness test (x ∷ xs)
    go true e later = record { one = x; among = (0, omega arith, refl); passes = e }
    go false e later =
        let w : Witness test xs = later (sym (ap (λ b. b || list_any test xs) e) ∙ h) in
        record { one = w.one; among = Contains-append_right (x ∷ []) xs w.one w.among; passes = w.passes }

any_filter : {X : Type 0} (test p : X → Bool) (xs : List X) → list_any test (filter p xs) ≡ list_any (λ x. p x && test x) xs
any_filter test p [] = refl
any_filter test p (x ∷ xs) = go (p x) (any_filter test p xs)
  where
    go : (b : Bool) → list_any test (filter p xs) ≡ list_any (λ y. p y && test y) xs →
        list_any test (cond b (x ∷ filter p xs) (filter p xs)) ≡ ((b && test x) || list_any (λ y. p y && test y) xs)
    go true e = ap (λ c. test x || c) e
    go false e = e

module _ (yields : List Yield) (nv : Nv) (t : Text) (r : SourceRange) where
  -- a yield about the module that says so
  saying : (of : Yield → List SourceRange) → list_any (same_range r) (flat_map of (about_module t (about nv yields))) ≡ true →
      (y : Yield) × Contains yields y × (list_any (bytes_eq t) (modules_of y) ≡ true) × (list_any (same_range r) (of y) ≡ true)
  saying of e =
      let says : Yield → Bool = λ y. list_any (same_range r) (of y) in
      let named : Yield → Bool = λ y. list_any (bytes_eq t) (modules_of y) in
      let w = witness (λ y. same_nv nv (package_of y) && (named y && says y)) yields
      (sym (any_flat (same_range r) of (about_module t (about nv yields)) ∙ (any_filter says named (about nv yields)
      ∙ any_filter (λ y. named y && says y) (λ y. same_nv nv (package_of y)) yields)) ∙ e) in
      let both = and_parts (named w.one) (says w.one) (and_parts (same_nv nv (package_of w.one)) (named w.one && says w.one) w.passes).1 in
      (w.one, w.among, both.0, both.1)

  of_text : (u : Text) → (bytes_eq t u || false) ≡ true → t ≡ u
  of_text u h = (bytes_decides t u).0 (sym (or_none (bytes_eq t u)) ∙ h)

  of_range : (x : SourceRange) → (same_range r x || false) ≡ true → r ≡ x
  of_range x h = exact_range r x (sym (or_none (same_range r x)) ∙ h)

  -- a public range is one of some yield
  pub shown : list_any (same_range r) (flat_map ranges_of (about_module t (about nv yields))) ≡ true → (p : Nv) × Contains yields (public p t r)
  shown e = let s = saying ranges_of e in go s.0 s.1 s.2 s.3
    where
      go : (y : Yield) → Contains yields y → list_any (bytes_eq t) (modules_of y) ≡ true → list_any (same_range r) (ranges_of y) ≡ true →
          (p : Nv) × Contains yields (public p t r)
      go (public p u x) c m h = (
        p,
        subst (λ (v : Text). Contains yields (public p v r)) (sym (of_text u m))
            (subst (λ (s : SourceRange). Contains yields (public p u s)) (sym (of_range x h)) c),
      )
      go (known_package p) c m h = absurd (false≢true h)
      go (entry_point p u) c m h = absurd (false≢true h)
      go (refused_export p u) c m h = absurd (false≢true h)
      go (dependency p d) c m h = absurd (false≢true h)
      go (recorded p u) c m h = absurd (false≢true h)
      go (implementing p u x) c m h = absurd (false≢true h)
      go (faulty p u f) c m h = absurd (false≢true h)
      go (cached p es item) c m h = absurd (false≢true h)

  pub implemented : list_any (same_range r) (flat_map implementations_of (about_module t (about nv yields))) ≡ true →
      (p : Nv) × Contains yields (implementing p t r)
  implemented e = let s = saying implementations_of e in go s.0 s.1 s.2 s.3
    where
      go : (y : Yield) → Contains yields y → list_any (bytes_eq t) (modules_of y) ≡ true →
          list_any (same_range r) (implementations_of y) ≡ true →
          (p : Nv) × Contains yields (implementing p t r)
      go (implementing p u x) c m h = (
        p,
        subst (λ (v : Text). Contains yields (implementing p v r)) (sym (of_text u m))
            (subst (λ (s : SourceRange). Contains yields (implementing p u s)) (sym (of_range x h)) c),
      )
      go (known_package p) c m h = absurd (false≢true h)
      go (entry_point p u) c m h = absurd (false≢true h)
      go (refused_export p u) c m h = absurd (false≢true h)
      go (dependency p d) c m h = absurd (false≢true h)
      go (recorded p u) c m h = absurd (false≢true h)
      go (public p u x) c m h = absurd (false≢true h)
      go (faulty p u f) c m h = absurd (false≢true h)
      go (cached p es item) c m h = absurd (false≢true h)

-- each module that stands answers the yields about it
module _ (yields : List Yield) (answers : BTreeMap PackageNv PackagePublicRanges) (says : AreAnswers yields answers) (nv : Nv) (t : Text) where
  abbrev IsAnswer : PublicRanges → Type 0
  IsAnswer m = IsModuleAnswer t (about_module t (about nv yields)) m

  stands : (o : Option PublicRanges) → StandsFor (IsModuleAnswer t) (about_module t (about nv yields)) o → IfSome o IsAnswer
  stands None a = tt
  stands (Some m) a = a.1

  by_items : (items : List (List Parts × ItemView)) (p : PackagePublicRanges) → IsAnswerBy items (about nv yields) p →
      IfSome (lookup_text t p.module_ranges.entries) IsAnswer
  by_items [] p a = stands (lookup_text t p.module_ranges.entries) (a.modules t)
  by_items (i ∷ items) p a =
      subst (λ (es : List (Parts × PublicRanges)). IfSome (lookup_text t es) IsAnswer) (sym a.2.nothing_else) tt

  pub module_stands : IfSome (module_answer answers nv t) IsAnswer
  module_stands = go (lookup_package nv answers.entries) (says nv)
    where
      go : (o : Option PackagePublicRanges) → StandsFor IsPackageAnswer (about nv yields) o →
          IfSome (option_and_then (λ p. lookup_text t p.module_ranges.entries) o) IsAnswer
      go None a = tt
      go (Some p) a = by_items (flat_map items_of (about nv yields)) p a.1
