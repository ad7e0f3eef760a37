-- A set of packages, to which one is added.
use Rattle.std.proofs.Common.{◌≡◌, ◌∙◌, refl, sym, ap, Bool, true, false, cond, ◌||◌, [], ◌∷◌, ◌++◌, append-nil, take, get_or}
use Rattle.std.specs.Prelude.{ℕ, ◌+◌, ◌<◌, List, length, slice_get, option_to_list}
use Rattle.std.specs.Cmp.{eq_by_cmp_equiv}
use Rattle.std.specs.List.{list_any}
use Rattle.std.proofs.lemmas.List.{take_more}
use Rattle.std.proofs.lemmas.List.Concat.{flat_map-append}
use Rattle.std.proofs.lemmas.List.Folds.{list_any-append}
use Rattle.std.specs.Ordering.{eq_by_cmp}
use Rattle.std.specs.BTreeSet.{BTreeSet, contains, Updates}
use Rattle.fast_check_tables_packages.specs.declared.package.PackageNv.{PackageNv}
use Rattle.fast_check_tables_packages.specs.Package.{Nv}
use Rattle.fast_check_tables_packages.specs.Packages.{package_cmp}
use Rattle.fast_check_finder_demands.specs.asked.Demands.{same_nv}
use Rattle.fast_check_finder_ranges.proofs.findings.Bools.{or_assoc}
use Rattle.fast_check_finder_ranges.proofs.findings.Lists.{any_push}
use Rattle.fast_check_finder_ranges.specs.Parts.{is_package, named_at}
use Rattle.fast_check_finder_ranges.proofs.Maps.{package_one, package_total}
use Rattle.fast_check_finder_ranges.proofs.Sets.{collected}

or_last : (b l : Bool) → cond b true l ≡ (l || b)
or_last true true = refl
or_last true false = refl
or_last false true = refl
or_last false false = refl

-- it has what it had, and that one
pub has_more : (old new : BTreeSet PackageNv) (key : PackageNv) → Updates package_cmp old new key true → (nv : Nv)
    → list_any (is_package nv) new.keys ≡ (list_any (is_package nv) old.keys || is_package nv key)
has_more old new key u nv =
    collected package_total (is_package nv) (package_one nv) new.keys (old.keys ++ key ∷ [])
    (λ q.
    u.0 q
    ∙ (ap (λ (b : Bool). cond b true (contains package_cmp old q)) ((eq_by_cmp_equiv package_total).symm key q)
    ∙ (or_last (eq_by_cmp package_cmp q key) (contains package_cmp old q)
    ∙ sym (any_push (eq_by_cmp package_cmp q) old.keys key))))
    ∙ any_push (is_package nv) old.keys key

-- those at some places, and at one more
pub named_more : (packages : List Nv) (nv : Nv) (places : List ℕ) (i place : ℕ) (start old new : Bool) → i < length places →
    get_or places i 0 ≡ place → old ≡ (start || list_any (same_nv nv) (named_at packages (take i places))) →
    new ≡ (old || list_any (same_nv nv) (option_to_list (slice_get packages place))) →
    new ≡ (start || list_any (same_nv nv) (named_at packages (take (i + 1) places)))
named_more packages nv places i place start old new below is before after =
    let front = named_at packages (take i places) in
    let last = option_to_list (slice_get packages place) in
    let whole : named_at packages (take (i + 1) places) ≡ front ++ last =
    ap (named_at packages) (take_more places i 0 below ∙ ap (λ k. take i places ++ k ∷ []) is)
    ∙ (flat_map-append (λ k. option_to_list (slice_get packages k)) (take i places) (place ∷ []) ∙ ap (λ ns. front ++ ns) (append-nil last)) in
    after
    ∙ (ap (λ b. b || list_any (same_nv nv) last) before
    ∙ (or_assoc start (list_any (same_nv nv) front) (list_any (same_nv nv) last)
    ∙ ap (λ b. start || b) (sym (ap (list_any (same_nv nv)) whole ∙ list_any-append (same_nv nv) front last))))
