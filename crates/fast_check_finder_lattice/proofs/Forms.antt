-- The three forms of what is demanded of a module, and what `add` does to them.
use Rattle.std.proofs.Common.{◌≡◌, ◌∙◌, sym, ap, refl, subst, ⊎_elim, Bool, true, false, ◌&&◌, ◌||◌, not, cond, ℕ, ◌≤◌, ◌<◌, length, List}
use Rattle.std.proofs.Common.{[], ◌∷◌, ◌++◌, Some, None, string_bytes, arith, length-append, get_or}
use Rattle.std.specs.Str.{bytes_eq}
use Rattle.std.proofs.lemmas.Bool.{false≢true, cases_Bool, or_left, or_right}
use Rattle.std.proofs.lemmas.Slice.Eq.{bytes_eq-Decides}
use Rattle.fast_check_finder_lattice.specs.declared.lattice.named_subset.NamedSubset.{NamedSubset}
use Rattle.fast_check_finder_lattice.specs.declared.lattice.imported_exports.ImportedExports.{ImportedExports}
use Rattle.fast_check_finder_lattice.specs.declared.lattice.imported_exports.ImportedExports.TheVariants.{Star, StarWithDefault, Subset}
use Rattle.fast_check_finder_lattice.specs.Names.{Name, Path, Part, Touched, Covered, NameSet, paths, nothing, whole, IsSame, IsBelow, IsJoin}
use Rattle.fast_check_finder_lattice.specs.Names.{HasMore}
use Rattle.fast_check_finder_lattice.specs.Imports.{default_name, all_but_default, all_names, imported}
use Rattle.fast_check_finder_lattice.specs.Order.{Entry, found}
use Rattle.fast_check_finder_lattice.specs.Graph.{entry, listings, reach}
use Rattle.fast_check_finder_lattice.proofs.Shapes.{nothing_below, all_below}
use Rattle.fast_check_finder_lattice.proofs.Walks.{or_false}

-- No set of names has all names but `default`: a name longer than each of its names is missing.

-- more than the texts of all names, and than `default`
long : List Entry → List ℕ
long [] = 0 ∷ default_name
long (e ∷ es) = string_bytes e.0 ++ long es

long_more : (es : List Entry) → 7 < length (long es)
unfolding long
long_more [] = omega arith
long_more (e ∷ es) = omega (arith, long_more es, length-append (string_bytes e.0) (long es))

shorter_differs : (n m : Name) → length m < length n → bytes_eq m n ≡ false
shorter_differs n m h = ⊎_elim (λ t. absurd (omega (arith, h, ap length ((bytes_eq-Decides m n).0 t)))) (λ f. f) (cases_Bool (bytes_eq m n))

not_found : (n : Name) (es : List Entry) → length (long es) ≤ length n → found es n ≡ None
unfolding long
not_found n [] h = refl
not_found n (e ∷ es) h =
    let apart : bytes_eq (string_bytes e.0) n ≡ false =
    shorter_differs n (string_bytes e.0) (omega (arith, h, long_more es, length-append (string_bytes e.0) (long es))) in
    ap (λ b. cond b (Some e.1) (found es n)) apart ∙ not_found n es (omega (arith, h, length-append (string_bytes e.0) (long es)))

-- a name that is missing, and is not `default`
missing : NamedSubset → Name
missing s = long (get_or (listings s.nodes.items) 0 [])

missing_touched : (s : NamedSubset) → paths s Touched (missing s ∷ []) ≡ false
unfolding missing
missing_touched s = ap (λ o. reach (entry s.nodes.items) o Touched [])
    (not_found (missing s) (get_or (listings s.nodes.items) 0 []) (omega arith))

missing_star : (s : NamedSubset) → all_but_default Touched (missing s ∷ []) ≡ true
unfolding missing
missing_star s = ap not (shorter_differs (missing s) default_name (omega (arith, long_more (get_or (listings s.nodes.items) 0 []))))

pub not_all : (s : NamedSubset) → IsBelow all_but_default (paths s) → ⊥
not_all s h = false≢true (sym (missing_touched s) ∙ h Touched (missing s ∷ []) (missing_star s))

-- something of the stars is not in a set
pub more_than_star : (s : NamedSubset) → HasMore all_but_default (paths s)
more_than_star s = (Touched, missing s ∷ [], missing_star s, missing_touched s)

pub more_than_all : (s : NamedSubset) → HasMore all_names (paths s)
more_than_all s = (Touched, missing s ∷ [], refl, missing_touched s)

-- what is below or above the stars

pub star_below_all : IsBelow all_but_default all_names
star_below_all part [] t = t
star_below_all part (n ∷ q) t = refl

pub set_below_all : (s : NamedSubset) → IsBelow (paths s) all_names
set_below_all s part [] t = absurd (false≢true (t))
set_below_all s part (n ∷ q) t = refl

-- where `default` is not touched, nothing below it is
no_default : (s : NamedSubset) → paths s Touched (default_name ∷ []) ≡ false → (part : Part) (q : Path) →
    paths s part (default_name ∷ q) ≡ false
no_default s h part q = nothing_below (entry s.nodes.items) (entry s.nodes.items 0 default_name) h part q

-- where `default` is covered, all below it is
whole_default : (s : NamedSubset) → paths s Covered (default_name ∷ []) ≡ true → (part : Part) (q : Path) →
    paths s part (default_name ∷ q) ≡ true
whole_default s h part q = all_below (entry s.nodes.items) (entry s.nodes.items 0 default_name) h part q

not_true : (b : Bool) → b ≡ false → not b ≡ true
not_true true h = cc
not_true false h = refl

pub set_below_star : (s : NamedSubset) → paths s Touched (default_name ∷ []) ≡ false → IsBelow (paths s) all_but_default
set_below_star s h part [] t = absurd (false≢true (t))
set_below_star s h part (n ∷ q) t =
    ⊎_elim
    (λ e. absurd
    (false≢true
    (sym (no_default s h part q) ∙ subst (λ (m : Name). paths s part (m ∷ q) ≡ true)
    (sym ((bytes_eq-Decides default_name n).0 e)) t)))
    (λ e. not_true (bytes_eq default_name n) e)
    (cases_Bool (bytes_eq default_name n))

-- what has all names but `default`, and touches `default`, has all names
pub least_all : (x : ImportedExports) → IsBelow all_but_default (imported x) → imported x Touched (default_name ∷ []) ≡ true →
    IsBelow all_names (imported x)
least_all Star h t = absurd (false≢true t)
least_all StarWithDefault h t = λ part p u. u
least_all (Subset s) h t = absurd (not_all s h)

pub new_above : (x : ImportedExports) → IsBelow (imported x) all_names
new_above Star = star_below_all
new_above StarWithDefault = λ part p t. t
new_above (Subset s) = set_below_all s

-- joins

or_below : (a b : Bool) → (a ≡ true → b ≡ true) → b ≡ (a || b)
or_below true b h = h refl
or_below false b h = refl

pub join_nothing : (f : NameSet) → IsJoin f nothing f
join_nothing f part p = or_false (f part p)

-- the answer has all of the old set
pub join_above : (f g : NameSet) → IsBelow f g → IsJoin f g g
join_above f g h part p = or_below (f part p) (g part p) (h part p)

or_not : (b : Bool) → true ≡ (not b || (b && true))
or_not true = refl
or_not false = refl

-- all names but `default`, and `default`
pub join_default : (d : NamedSubset) → IsSame (paths d) (whole default_name []) → IsJoin all_but_default (paths d) all_names
join_default d e part [] = refl
join_default d e part (n ∷ q) = or_not (bytes_eq default_name n) ∙ sym (ap (λ b. not (bytes_eq default_name n) || b) (e part (n ∷ q)))

-- a set that has `default` whole, and all other names
pub join_whole_default : (s : NamedSubset) → paths s Covered (default_name ∷ []) ≡ true → IsJoin (paths s) all_but_default all_names
join_whole_default s h part [] = refl
join_whole_default s h part (n ∷ q) =
    ⊎_elim
    (λ e. sym (or_left (paths s part (n ∷ q)) (not (bytes_eq default_name n))
    (subst (λ (m : Name). paths s part (m ∷ q) ≡ true) ((bytes_eq-Decides default_name n).0 e) (whole_default s h part q))))
    (λ e. sym (or_right (paths s part (n ∷ q)) (not (bytes_eq default_name n)) (not_true (bytes_eq default_name n) e)))
    (cases_Bool (bytes_eq default_name n))
