-- Whether anything is found of a package.
use Rattle.std.proofs.Common.{◌≡◌, ◌∙◌, refl, ap, ℕ, true, ◌||◌, List, [], ◌∷◌, ◌++◌, length, Option, Some, None, arith}
use Rattle.std.specs.Cmp.{both_ways}
use Rattle.std.specs.Prelude.{◌<◌, nat_lt, option_to_list, slice_get}
use Rattle.std.specs.List.{list_any, flat_map}
use Rattle.std.specs.Option.{is_some}
use Rattle.std.proofs.lemmas.Bool.{false≢true, lt-ltb, ltb-true}
use Rattle.std.proofs.lemmas.Option.{slice_get_within, slice_get-get_or}
use Rattle.fast_check_tables_packages.specs.Package.{Nv}
use Rattle.fast_check_finder_ranges.specs.findings.Found.{module_yields, entrance_yields, dependency_yields, untyped_yields, package_yields}
use Rattle.fast_check_finder_ranges.specs.findings.Yields.{dependency}
use Rattle.fast_check_finder_ranges.specs.declared.findings.found.Entrance.{Entrance}
use Rattle.fast_check_finder_ranges.specs.declared.findings.found.Entrance.TheVariants.{Entered, Cached}
use Rattle.fast_check_finder_ranges.specs.declared.findings.found.FoundPackage.{FoundPackage}
use Rattle.fast_check_finder_ranges.specs.Answers.{is_filled}
use Rattle.fast_check_finder_ranges.proofs.Lists.{filled_append, filled_map, filled_flat}

filled_at : {X : Type 0} (xs : List X) (i : ℕ) → is_filled (option_to_list (slice_get xs i)) ≡ nat_lt i (length xs)
filled_at {X} xs i = both_ways (is_filled (option_to_list (slice_get xs i))) (nat_lt i (length xs))
    (λ h. within (slice_get xs i) refl h) (λ h. there xs (ltb-true i (length xs) h))
  where
    none_below : i < 0 → ⊥
    none_below l = omega (arith, l)

    within : (o : Option X) → slice_get xs i ≡ o → is_filled (option_to_list o) ≡ true → nat_lt i (length xs) ≡ true
    within None e h = absurd (false≢true h)
    within (Some x) e h = lt-ltb i (length xs) (slice_get_within xs i x e)

    there : (ys : List X) → i < length ys → is_filled (option_to_list (slice_get ys i)) ≡ true
    there [] l = absurd (none_below l)
    there (y ∷ ys) l = ap (λ o. is_filled (option_to_list o)) (slice_get-get_or (y ∷ ys) i y l)

entered : (nv : Nv) (e : Option Entrance) → is_filled (entrance_yields nv e) ≡ is_some e
entered nv None = refl
entered nv (Some (Entered entry_points faults)) = refl
entered nv (Some (Cached entry_points item)) = refl

depends : (packages : List Nv) (nv : Nv) (places : List ℕ) →
    is_filled (flat_map (dependency_yields packages nv) places) ≡ list_any (λ place. nat_lt place (length packages)) places
depends packages nv [] = refl
depends packages nv (place ∷ places) =
    filled_append (dependency_yields packages nv place) (flat_map (dependency_yields packages nv) places)
    ∙ (ap (λ b. b || is_filled (flat_map (dependency_yields packages nv) places))
    (filled_map (dependency nv) (option_to_list (slice_get packages place)) ∙ filled_at packages place)
    ∙ ap (λ b. nat_lt place (length packages) || b) (depends packages nv places))

pub known : (packages : List Nv) (nv : Nv) (p : FoundPackage) → is_filled (package_yields packages nv p) ≡
    (is_some p.entrance || (list_any (λ place. nat_lt place (length packages)) p.dependencies.items ||
    (is_filled p.modules.items || is_filled p.untyped.items)))
known packages nv p =
    let d = flat_map (dependency_yields packages nv) p.dependencies.items in
    let m = flat_map (module_yields nv) p.modules.items in
    let u = flat_map (untyped_yields nv) p.untyped.items in
    filled_append (entrance_yields nv p.entrance) (d ++ (m ++ u))
    ∙ (ap (λ b. b || is_filled (d ++ (m ++ u))) (entered nv p.entrance) ∙ ap (λ b. is_some p.entrance || b)
    (filled_append d (m ++ u) ∙ (ap (λ b. b || is_filled (m ++ u)) (depends packages nv p.dependencies.items)
    ∙ ap (λ b. list_any (λ place. nat_lt place (length packages)) p.dependencies.items || b)
    (filled_append m u ∙ (ap (λ b. b || is_filled u) (filled_flat (module_yields nv) (λ x. refl) p.modules.items)
    ∙ ap (λ b. is_filled p.modules.items || b) (filled_flat (untyped_yields nv) (λ x. refl) p.untyped.items))))))
