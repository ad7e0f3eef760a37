-- Equality of demands.
use Rattle.std.proofs.Common.{◌≡◌, refl, ℕ, true, List, [], ◌∷◌, eqb}
use Rattle.std.specs.Str.{bytes_eq}
use Rattle.std.specs.Cmp.Lexicographic.{bytes_decides}
use Rattle.std.proofs.lemmas.Bool.{false≢true, eq-eqb, and_parts, and_from}
use Rattle.fast_check_finder_lattice.specs.Names.{Path}
use Rattle.fast_check_finder_demands.specs.declared.symbol_demands.demand.Namespaces.{Namespaces}
use Rattle.fast_check_finder_demands.specs.declared.symbol_demands.demand.Namespaces.TheVariants.{Value, Type_, Both}
use Rattle.fast_check_finder_demands.specs.declared.symbol_demands.demand.Extent.{Extent}
use Rattle.fast_check_finder_demands.specs.declared.symbol_demands.demand.Extent.TheVariants.{Touched, Whole}
use Rattle.fast_check_finder_demands.specs.symbol_demands.Demands.{Demand, Asked, by_reference, as_child, by_path}
use Rattle.fast_check_finder_demands.specs.Account.{same_namespaces, same_extent, same_path, same_asked, same, alike, essence}

pub same_paths : (p q : Path) → same_path p q ≡ true → p ≡ q
same_paths [] [] h = refl
same_paths [] (y ∷ ys) h = absurd (false≢true h)
same_paths (x ∷ xs) [] h = absurd (false≢true h)
same_paths (x ∷ xs) (y ∷ ys) h =
    let t = and_parts (bytes_eq x y) (same_path xs ys) h in
    both x y xs ys ((bytes_decides x y).0 t.0) (same_paths xs ys t.1)
  where
    both : (x y : List ℕ) (xs ys : Path) → x ≡ y → xs ≡ ys → x ∷ xs ≡ y ∷ ys
    both x y xs ys e f = cc

namespace_itself : (n : Namespaces) → same_namespaces n n ≡ true
namespace_itself Value = refl
namespace_itself Type_ = refl
namespace_itself Both = refl

extent_itself : (x : Extent) → same_extent x x ≡ true
extent_itself Touched = refl
extent_itself Whole = refl

pub path_itself : (p : Path) → same_path p p ≡ true
path_itself [] = refl
path_itself (x ∷ xs) = and_from (bytes_eq x x) (same_path xs xs) ((bytes_decides x x).1 refl) (path_itself xs)

ask_itself : (a : Asked) → same_asked a a ≡ true
ask_itself (by_reference n) = namespace_itself n
ask_itself (as_child n) = namespace_itself n
ask_itself (by_path p x) = and_from (same_path p p) (same_extent x x) (path_itself p) (extent_itself x)

pub same_itself : (d : Demand) → same d d ≡ true
same_itself d = and_from (eqb d.symbol.0 d.symbol.0) _ (eq-eqb d.symbol.0 d.symbol.0 refl)
    (and_from (same_asked d.asked d.asked) (eqb d.referrer.0 d.referrer.0) (ask_itself d.asked) (eq-eqb d.referrer.0 d.referrer.0 refl))

pub alike_itself : (d : Demand) → alike d d ≡ true
alike_itself d = same_itself (essence d)

-- demands that ask for one thing are of one kind
