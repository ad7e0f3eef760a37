-- Yields that correspond are about one package and module.
use Rattle.std.proofs.Common.{◌≡◌, sym, ap, refl, Bool, true, ◌&&◌, [], ◌∷◌}
use Rattle.std.specs.Str.{bytes_eq}
use Rattle.std.proofs.lemmas.Bool.{false≢true, and_parts}
use Rattle.fast_check_finder_demands.specs.asked.Demands.{Text, same_nv}
use Rattle.fast_check_tables_packages.specs.Package.{Nv}
use Rattle.fast_check_finder_ranges.specs.Answers.{package_of, modules_of, entry_points_of, faults_of, items_of, is_filled}
use Rattle.fast_check_finder_ranges.specs.findings.Yields.{Yield, known_package, entry_point, refused_export, dependency}
use Rattle.fast_check_finder_ranges.specs.findings.Yields.{recorded, public, implementing, faulty}
use Rattle.fast_check_finder_loop.proofs.Accounted.{text_is}
use Rattle.fast_check_finder_loop.proofs.Places.{nv_is}
use Rattle.fast_check_build_unique.specs.Moved.{Renamings, corresponds}

pub record Alike (y z : Yield) : Type 0 where
  pub its_package : package_of y ≡ package_of z
  pub modules : modules_of y ≡ modules_of z
  pub entry_points : entry_points_of y ≡ entry_points_of z
  pub faulty : is_filled (faults_of y) ≡ is_filled (faults_of z)
  pub no_items : (items_of y ≡ []) × (items_of z ≡ [])

by_parts : (y z : Yield) (p q : Nv) (t u : Text) (b : Bool) → (same_nv p q && (bytes_eq t u && b)) ≡ true →
    (p ≡ q → t ≡ u → Alike y z) → Alike y z
by_parts y z p q t u b h go =
    let x = and_parts (same_nv p q) (bytes_eq t u && b) h in
    go (nv_is p q x.0) (text_is t u (and_parts (bytes_eq t u) b x.1).0)

by_both : (y z : Yield) (p q : Nv) (t u : Text) → (same_nv p q && bytes_eq t u) ≡ true → (p ≡ q → t ≡ u → Alike y z) → Alike y z
by_both y z p q t u h go = let x = and_parts (same_nv p q) (bytes_eq t u) h in go (nv_is p q x.0) (text_is t u x.1)

pub alike : (moves : Renamings) (y z : Yield) → corresponds moves y z ≡ true → Alike y z
alike moves (known_package p) (known_package q) h = record { its_package = nv_is p q h; modules = refl; entry_points = refl; faulty = refl; no_items = (refl, refl) }
alike moves (entry_point p t) (entry_point q u) h = by_both (entry_point p t) (entry_point q u) p q t u h
    (λ e f. record { its_package = e; modules = refl; entry_points = ap (λ (v : Text). v ∷ []) f; faulty = refl; no_items = (refl, refl) })
alike moves (refused_export p t) (refused_export q u) h = by_both (refused_export p t) (refused_export q u) p q t u h
    (λ e f. record { its_package = e; modules = refl; entry_points = refl; faulty = refl; no_items = (refl, refl) })
alike moves (dependency p d) (dependency q e) h =
    record { its_package = nv_is p q (and_parts (same_nv p q) (same_nv d e) h).0; modules = refl; entry_points = refl; faulty = refl; no_items = (refl, refl) }
alike moves (recorded p t) (recorded q u) h = by_both (recorded p t) (recorded q u) p q t u h
    (λ e f. record { its_package = e; modules = ap (λ (v : Text). v ∷ []) f; entry_points = refl; faulty = refl; no_items = (refl, refl) })
alike moves (public p t a) (public q u b) h = by_parts (public p t a) (public q u b) p q t u _ h
    (λ e f. record { its_package = e; modules = ap (λ (v : Text). v ∷ []) f; entry_points = refl; faulty = refl; no_items = (refl, refl) })
alike moves (implementing p t a) (implementing q u b) h = by_parts (implementing p t a) (implementing q u b) p q t u _ h
    (λ e f. record { its_package = e; modules = ap (λ (v : Text). v ∷ []) f; entry_points = refl; faulty = refl; no_items = (refl, refl) })
alike moves (faulty p t f) (faulty q u g) h = by_both (faulty p t f) (faulty q u g) p q t u h
    (λ e i. record { its_package = e; modules = ap (λ (v : Text). v ∷ []) i; entry_points = refl; faulty = refl; no_items = (refl, refl) })
alike moves _ _ h = absurd (false≢true h)

pub turned : (y z : Yield) → Alike y z → Alike z y
turned y z h =
    record { its_package = sym h.its_package; modules = sym h.modules; entry_points = sym h.entry_points; faulty = sym h.faulty; no_items = (h.no_items.1, h.no_items.0) }
