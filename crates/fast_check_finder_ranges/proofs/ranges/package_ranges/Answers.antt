use Rattle.std.proofs.Common.{◌≡◌, ◌∙◌, refl, sym, ap, subst, List, [], ◌∷◌, ◌++◌, map, append_assoc, append-nil}
use Rattle.std.specs.List.{flat_map, IsDistinct}
use Rattle.std.specs.Map.{keys_of}
use Rattle.std.proofs.lemmas.Map.Iter.{rest_more, rest_all}
use Rattle.fast_check_tables_packages.specs.Package.{Nv, nv_of}
use Rattle.fast_check_tables_packages.specs.declared.package.PackageNv.{PackageNv}
use Rattle.fast_check_tables_packages.specs.contracts.package.PackageNvPartialEq.TheImpl as package_eq
use Rattle.fast_check_tables_cache.specs.declared.package_ranges.PackagePublicRanges.{PackagePublicRanges}
use Rattle.fast_check_finder_ranges.specs.findings.Yields.{Yield}
use Rattle.fast_check_finder_ranges.specs.Answers.{about, StandsFor, lookup_package, IsPackageAnswer}
use Rattle.fast_check_finder_ranges.specs.Parts.{yields_at, IsAdded}
use Rattle.fast_check_finder_ranges.proofs.Answered.{Found, differ, added}
use Rattle.fast_check_finder_ranges.proofs.ranges.package_ranges.Goals as goal

pub loop-package-init : goal.loop-package-init
loop-package-init c = (
  [],
  c.into_iter-package-iterator.ensures.into_iter_gives.0,
  λ nv. subst (λ (es : List (PackageNv × PackagePublicRanges)). StandsFor IsPackageAnswer [] (lookup_package nv es))
      (sym c.new-answers.ensures.empty) refl,
)

pub loop-package-preserved : goal.loop-package-preserved
loop-package-preserved c =
    let x : Found = (c.in-Some.package, c.in-Some.found) in
    let front = c.loop-package.invariant.0 in
    let rest : List Found = c.next.new.self in
    let whole : front ++ x ∷ rest ≡ c.args.found.entries =
    ap (λ (ys : List Found). front ++ ys)
    (sym (rest_more (λ p. p) c.loop-package.package-iterator rest c.next.result x c.in-Some.is c.next.ensures.steps))
    ∙ c.loop-package.invariant.1 in (
      front ++ x ∷ [],
      append_assoc front (x ∷ []) rest ∙ whole,
      λ nv. added (map nv_of c.in_ok-packages.packages.items) nv front x c.loop-package.answers.entries c.add_answer.new.answers.entries
          (subst (λ (ps : List PackageNv). IsAdded (map nv_of ps) x c.loop-package.answers.entries c.add_answer.new.answers.entries)
          c.as_slice.ensures.value c.in_ok-add_answer.ensures)
          (differ package_eq.eq-value.it front x rest (subst (λ (es : List Found). IsDistinct package_eq.eq-value.it (keys_of es)) (sym whole)
          c.into_iter-package-iterator.ensures.into_iter_gives.4))
          (c.loop-package.invariant.2 nv),
    )

pub returns : goal.returns
returns c = λ nv.
    let front = c.loop-package.invariant.0 in
    let all : front ≡ c.args.found.entries =
    sym (append-nil front) ∙ (ap (λ (ys : List Found). front ++ ys)
    (sym (rest_all (λ p. p) c.loop-package.package-iterator c.next.new.self c.next.result c.in-None.is c.next.ensures.steps))
    ∙ c.loop-package.invariant.1) in
    subst (λ (ys : List Yield). StandsFor IsPackageAnswer (about nv ys) (lookup_package nv c.loop-package.answers.entries))
    (ap (flat_map (yields_at (map nv_of c.in_ok-packages.packages.items))) all
    ∙ ap (λ (names : List Nv). flat_map (yields_at names) c.args.found.entries) c.in_ok-packages.ensures)
    (c.loop-package.invariant.2 nv)
