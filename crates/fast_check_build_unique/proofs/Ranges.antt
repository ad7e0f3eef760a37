-- The public ranges of two inputs in lockstep correspond.
use Rattle.std.proofs.Common.{◌≡◌, ◌∙◌, sym, ap, refl, subst, Bool, true, false, List}
use Rattle.std.specs.List.{Contains, list_any, flat_map}
use Rattle.std.specs.Str.{bytes_eq}
use Rattle.std.specs.Cmp.{unsigned_Decides}
use Rattle.fast_check_tree_syntax.specs.declared.source.SourceRange.{SourceRange}
use Rattle.fast_check_tree_syntax.specs.Moves.{Renaming, IsRenaming}
use Rattle.fast_check_tables_packages.specs.Package.{Nv}
use Rattle.fast_check_tables_diagnostics.specs.PublicRanges.{same_range}
use Rattle.fast_check_tables_modules.proofs.FaultsFound.{exact_range}
use Rattle.fast_check_tables_symbols.proofs.Witness.{witness as any_some, present as in_any, and_both}
use Rattle.fast_check_finder_demands.specs.asked.Demands.{Text, same_nv}
use Rattle.fast_check_finder_demands.proofs.Elements.{in_flat, of_flat, in_filter, of_filter}
use Rattle.fast_check_finder_ranges.specs.Answers.{about, about_module, modules_of, package_of}
use Rattle.fast_check_finder_ranges.specs.findings.Yields.{Yield}
use Rattle.fast_check_build_unique.specs.Moved.{is_moved}
use Rattle.fast_check_build_unique.specs.Modules.{is_moved_from}
use Rattle.fast_check_build_unique.proofs.Corresponding.{one_moved}

abbrev pub Make : Type 0
Make = Nv → Text → SourceRange → Yield

-- yields of one kind: of a range in a module of a package
pub record IsKind (make : Make) (of : Yield → List SourceRange) : Type 0 where
  pub given : (p : Nv) (t : Text) (r : SourceRange) → Contains (of (make p t r)) r
  pub made : (nv : Nv) (t : Text) (y : Yield) (r : SourceRange) → same_nv nv (package_of y) ≡ true →
      list_any (bytes_eq t) (modules_of y) ≡ true → Contains (of y) r → y ≡ make nv t r
  pub its_package : (p : Nv) (t : Text) (r : SourceRange) → same_nv p (package_of (make p t r)) ≡ true
  pub its_module : (p : Nv) (t : Text) (r : SourceRange) → list_any (bytes_eq t) (modules_of (make p t r)) ≡ true

same_itself : (r : SourceRange) → same_range r r ≡ true
same_itself r = and_both _ _ ((unsigned_Decides r.start.0 r.start.0).1 refl) ((unsigned_Decides r.end.0 r.end.0).1 refl)

same_tests : (x y : Bool) → (x ≡ true → y ≡ true) → (y ≡ true → x ≡ true) → x ≡ y
same_tests true y f g = sym (f refl)
same_tests false true f g = g refl
same_tests false false f g = refl

-- the ranges that yields give of a module
abbrev pub ranges_in : (Yield → List SourceRange) → List Yield → Nv → Text → List SourceRange
ranges_in of ys nv t = flat_map of (about_module t (about nv ys))

module _ (make : Make) (of : Yield → List SourceRange) (kind : IsKind make of) (nv : Nv) (t : Text) where
  pub is_yielded : (ys : List Yield) (r : SourceRange) → list_any (same_range r) (ranges_in of ys nv t) ≡ true →
      Contains ys (make nv t r)
  is_yielded ys r h =
      let w = any_some (same_range r) (ranges_in of ys nv t) h in
      let y = of_flat of (about_module t (about nv ys)) w.0 w.1 in
      let in_module = of_filter (λ z. list_any (bytes_eq t) (modules_of z)) (about nv ys) y.0 y.1 in
      let in_package = of_filter (λ z. same_nv nv (package_of z)) ys y.0 in_module.0 in
      let is = kind.made nv t y.0 w.0 in_package.1 in_module.1 y.2 in
      subst (λ (x : SourceRange). Contains ys (make nv t x)) (sym (exact_range r w.0 w.2))
      (subst (λ (z : Yield). Contains ys z) is in_package.0)

  pub is_in : (ys : List Yield) (r : SourceRange) → Contains ys (make nv t r) →
      list_any (same_range r) (ranges_in of ys nv t) ≡ true
  is_in ys r h =
      let y = make nv t r in
      let here = in_filter (λ z. same_nv nv (package_of z)) ys y h (kind.its_package nv t r) in
      let there = in_filter (λ z. list_any (bytes_eq t) (modules_of z)) (about nv ys) y here (kind.its_module nv t r) in
      in_any (same_range r) (ranges_in of ys nv t) r (in_flat of (about_module t (about nv ys)) y r there (kind.given nv t r)) (same_itself r)

  module _ (r : Renaming) (ok : IsRenaming r) (ys zs : List Yield) (listed_a listed_b : List SourceRange)
      (in_a : (x : SourceRange) → list_any (same_range x) listed_a ≡ list_any (same_range x) (ranges_in of ys nv t))
      (in_b : (x : SourceRange) → list_any (same_range x) listed_b ≡ list_any (same_range x) (ranges_in of zs nv t))
      (forth : (a : SourceRange) → Contains ys (make nv t a) → (b : SourceRange) × Contains zs (make nv t b) × (is_moved r a b ≡ true))
      (back : (b : SourceRange) → Contains zs (make nv t b) → (a : SourceRange) × Contains ys (make nv t a) × (is_moved r a b ≡ true)) where
    -- the ranges of the second version are those that correspond to some of the first
    moved_forth : (b : SourceRange) → list_any (same_range b) listed_b ≡ true → is_moved_from r listed_a b ≡ true
    moved_forth b h =
        let from = back b (is_yielded zs b (sym (in_b b) ∙ h)) in
        let w = any_some (same_range from.0) listed_a (in_a from.0 ∙ is_in ys from.0 from.1) in
        in_any (λ a. is_moved r a b) listed_a w.0 w.1
        (ap (λ (x : SourceRange). is_moved r x b) (sym (exact_range from.0 w.0 w.2)) ∙ from.2)

    moved_back : (b : SourceRange) → is_moved_from r listed_a b ≡ true → list_any (same_range b) listed_b ≡ true
    moved_back b h =
        let w = any_some (λ a. is_moved r a b) listed_a h in
        let y = is_yielded ys w.0 (sym (in_a w.0) ∙ in_any (same_range w.0) listed_a w.0 w.1 (same_itself w.0)) in
        let to = forth w.0 y in
        let is = one_moved r ok w.0 to.0 b to.2 w.2 in
        in_b b ∙ is_in zs b (subst (λ (x : SourceRange). Contains zs (make nv t x)) is to.1)

    pub moved_listed : (b : SourceRange) → list_any (same_range b) listed_b ≡ is_moved_from r listed_a b
    moved_listed b = same_tests (list_any (same_range b) listed_b) (is_moved_from r listed_a b) (moved_forth b) (moved_back b)
