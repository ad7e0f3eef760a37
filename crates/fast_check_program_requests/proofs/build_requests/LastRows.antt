-- The rows that no later one of their package replaces.
use Rattle.std.proofs.Common.{◌≡◌, ◌∙◌, sym, ap, refl, Bool, true, false, cond, ◌||◌, List, [], ◌∷◌, map}
use Rattle.std.specs.Prelude.{if◌then◌else◌}
use Rattle.std.specs.BTreeSet.{BTreeSet, contains}
use Rattle.std.specs.Cmp.{eq_by_cmp_equiv}
use Rattle.std.specs.List.{list_any}
use Rattle.std.specs.Ordering.{is_eq, eq_by_cmp}
use Rattle.url.specs.Parts.{Parts}
use Rattle.fast_check_tables_packages.specs.declared.package.PackageNv.{PackageNv}
use Rattle.fast_check_tables_packages.specs.Package.{nv_of, nv_cmp}
use Rattle.fast_check_tables_packages.specs.PackageOrder.{nv_total}
use Rattle.fast_check_tables_packages.specs.Packages.{package_cmp}
use Rattle.fast_check_tables_symbols.specs.Entries.{unreplaced}
use Rattle.fast_check_tables_symbols.proofs.Unreplaced.{or_cond}

abbrev pub Row : Type 0
Row = PackageNv × Parts

abbrev pub are_alike : Row → Row → Bool
are_alike a b = is_eq (nv_cmp (nv_of a.0) (nv_of b.0))

-- ---- of rows as contracts see them

any_seen : {X Y : Type 0} (f : X → Y) (p : Y → Bool) (xs : List X) → list_any p (map f xs) ≡ list_any (λ x. p (f x)) xs
any_seen f p [] = refl
any_seen f p (x ∷ xs) = ap (λ b. p (f x) || b) (any_seen f p xs)

chosen : {X Y : Type 0} (f : X → Y) (b : Bool) (x : X) (xs : List X) →
    map f (if b then xs else x ∷ xs) ≡ (if b then map f xs else f x ∷ map f xs)
chosen f true x xs = refl
chosen f false x xs = refl

pub seen_unreplaced : {X Y : Type 0} (f : X → Y) (alike : Y → Y → Bool) (xs : List X)
    → map f (unreplaced (λ x y. alike (f x) (f y)) xs) ≡ unreplaced alike (map f xs)
seen_unreplaced f alike [] = refl
seen_unreplaced f alike (x ∷ xs) =
    chosen f (list_any (λ y. alike (f x) (f y)) xs) x (unreplaced (λ x y. alike (f x) (f y)) xs)
    ∙ (ap (λ ys. if list_any (λ y. alike (f x) (f y)) xs then ys else f x ∷ ys) (seen_unreplaced f alike xs)
    ∙ ap (λ b. if b then unreplaced alike (map f xs) else f x ∷ unreplaced alike (map f xs)) (sym (any_seen f (alike (f x)) xs)))

-- ---- one package more is noted

pub noted : (old new : BTreeSet PackageNv) (row : Row) (key : PackageNv) → nv_of key ≡ nv_of row.0
    → ((q : PackageNv) → contains package_cmp new q ≡ cond (eq_by_cmp package_cmp key q) true (contains package_cmp old q))
    → (x : Row) → contains package_cmp new x.0 ≡ (are_alike x row || contains package_cmp old x.0)
noted old new row key same u x =
    u x.0 ∙ (ap (λ b. cond b true (contains package_cmp old x.0))
    (ap (λ k. is_eq (nv_cmp k (nv_of x.0))) same ∙ (eq_by_cmp_equiv nv_total).symm (nv_of row.0) (nv_of x.0))
    ∙ or_cond (are_alike x row) (contains package_cmp old x.0))

pub noted_self : (old : BTreeSet PackageNv) (row : Row) (key : PackageNv) → nv_of key ≡ nv_of row.0 →
    contains package_cmp old key ≡ contains package_cmp old row.0
noted_self old row key same = ap (λ k. list_any (λ q. is_eq (nv_cmp k (nv_of q))) old.keys) same
