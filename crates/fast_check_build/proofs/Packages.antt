-- Each package that is answered is one of the account.
use Rattle.std.proofs.Common.{◌≡◌, ◌∙◌, sym, ap, refl, subst, Bool, true, false, cond, List, [], ◌∷◌, Option, Some, None}
use Rattle.std.specs.Prelude.{IfSome}
use Rattle.std.specs.List.{Contains, filter}
use Rattle.std.specs.BTreeMap.{BTreeMap}
use Rattle.std.proofs.lemmas.Bool.{false≢true}
use Rattle.fast_check_tables_packages.specs.Package.{Nv}
use Rattle.fast_check_tables_packages.specs.declared.package.PackageNv.{PackageNv}
use Rattle.fast_check_tables_cache.specs.declared.package_ranges.PackagePublicRanges.{PackagePublicRanges}
use Rattle.fast_check_finder_demands.specs.asked.Demands.{same_nv, Demand, of_package, of_module, of_symbol}
use Rattle.fast_check_finder_demands.proofs.asked.Maps.{first_in, rest_in}
use Rattle.fast_check_finder_ranges.specs.findings.Yields.{Yield}
use Rattle.fast_check_finder_ranges.specs.Answers.{package_of as answered_of, about, is_filled, lookup_package, IsPackageAnswer, StandsFor, AreAnswers}
use Rattle.fast_check_finder_loop.specs.demands.facts.GraphFacts.{Known}
use Rattle.fast_check_finder_loop.specs.Account.{Account, HasHomes, IsYield, package_of, is_package}
use Rattle.fast_check_finder_loop.specs.Yields.{demand_yields}
use Rattle.fast_check_finder_loop.proofs.OfPackage.{of_demand}
use Rattle.fast_check_finder_loop.proofs.Places.{nv_is}
use Rattle.fast_check_tables_symbols.proofs.Witness.{witness as any_some}

-- one that passes a test, where some do
some_passes : {X : Type 0} (test : X → Bool) (xs : List X) → is_filled (filter test xs) ≡ true → (x : X) × Contains xs x × (test x ≡ true)
some_passes test [] h = absurd (false≢true h)
some_passes {X} test (x ∷ xs) h = go (test x) refl h (λ e. some_passes test xs e)
  where
    go : (b : Bool) → test x ≡ b → is_filled (cond b (x ∷ filter test xs) (filter test xs)) ≡ true →
        (is_filled (filter test xs) ≡ true → (y : X) × Contains xs y × (test y ≡ true)) → (y : X) × Contains (x ∷ xs) y × (test y ≡ true)
    go true e h later = (x, first_in x xs, e)
    go false e h later = let s = later h in (s.0, rest_in x s.0 xs s.1, s.2)

-- a demand of a package is that of the package
is_asked : (nv : Nv) (d : Demand) → is_package nv d ≡ true → d ≡ of_package nv
is_asked nv (of_package q) h = ap of_package (sym (nv_is nv q h))
is_asked nv (of_module p t d) h = absurd (false≢true h)
is_asked nv (of_symbol p t s) h = absurd (false≢true h)

module _ (k : Known) (account : Account) (yields : List Yield) (of_account : IsYield (demand_yields k) account yields) (homes : HasHomes account) where
  asked_for : (nv : Nv) → is_filled (about nv yields) ≡ true → Contains account (of_package nv)
  asked_for nv h =
      let y = some_passes (λ y. same_nv nv (answered_of y)) yields h in
      let d = of_account.sound y.0 y.1 in
      let of : package_of d.0 ≡ nv = sym (of_demand k d.0 y.0 d.2) ∙ sym (nv_is nv (answered_of y.0) y.2) in
      let p = any_some (is_package (package_of d.0)) account (homes d.0 d.1) in
      subst (λ (q : Nv). Contains account (of_package q)) of
      (subst (λ (e : Demand). Contains account e) (is_asked (package_of d.0) p.0 p.2) p.1)

  stands : (nv : Nv) (o : Option PackagePublicRanges) → StandsFor IsPackageAnswer (about nv yields) o →
      IfSome o (λ p. Contains account (of_package nv))
  stands nv None h = tt
  stands nv (Some p) h = asked_for nv h.0

  pub all_asked : (answers : BTreeMap PackageNv PackagePublicRanges) → AreAnswers yields answers →
      (nv : Nv) → IfSome (lookup_package nv answers.entries) (λ p. Contains account (of_package nv))
  all_asked answers says nv = stands nv (lookup_package nv answers.entries) (says nv)
