-- Single demands and their paths.
use Rattle.std.proofs.Common.{◌≡◌, sym, refl, subst, true, not, [], ◌∷◌, ◌++◌}
use Rattle.std.specs.Str.{bytes_eq}
use Rattle.std.proofs.lemmas.Bool.{false≢true, and_parts, and_from}
use Rattle.std.proofs.lemmas.Slice.Eq.{bytes_eq-Decides}
use Rattle.fast_check_finder_lattice.specs.declared.lattice.imported_exports.ImportedExports.{ImportedExports}
use Rattle.fast_check_finder_lattice.specs.declared.lattice.imported_exports.ImportedExports.TheVariants.{Star, StarWithDefault, Subset}
use Rattle.fast_check_finder_lattice.specs.Names.{Name, Path, Part, Touched, Covered, NameSet, paths, whole_below, whole_path, has_whole, IsBelow}
use Rattle.fast_check_finder_lattice.specs.Names.{IsClosed, IsNameSet}
use Rattle.fast_check_finder_lattice.proofs.Shapes.{own_set}
use Rattle.fast_check_finder_lattice.specs.Imports.{default_name, all_but_default, all_names, imported, NameDemand, names_but_default, each_name}
use Rattle.fast_check_finder_lattice.specs.Imports.{subset_at, whole_at}
use Rattle.fast_check_finder_lattice.proofs.Forms.{star_below_all}
use Rattle.fast_check_finder_demands.specs.asked.Demands.{set_demands, asked, asked_by, one, touched_path, begins}
use Rattle.fast_check_finder_demands.specs.asked.Account.{IsStarred, HasDefault}
use Rattle.fast_check_finder_demands.specs.asked.State.{has_path}

-- what is whole is covered
pub whole_covered : (f : NameSet) (p : Path) → has_whole f p ≡ true → f Covered p ≡ true
whole_covered f [] h = h
whole_covered f (n ∷ p) h = whole_covered (λ part q. f part (n ∷ q)) p
    (and_parts (not (f Covered [])) (has_whole (λ part q. f part (n ∷ q)) p) h).1

-- below a name, what has a path touches the name
touched_start : (e : NameSet) → IsClosed e → (part : Part) (q : Path) → e part q ≡ true → e Touched [] ≡ true
touched_start e c Touched q h = c.beginnings [] q h
touched_start e c Covered q h = c.beginnings [] (q ++ []) (c.longer q [] Touched h)

-- a covered path has what a demand of it has
whole_in : (e : NameSet) → IsClosed e → (p : Path) → e Covered p ≡ true → (part : Part) (q : Path) → whole_below p part q ≡ true →
    e part q ≡ true
whole_in e c [] h part q t = c.longer [] q part h
whole_in e c (n ∷ p) h Touched [] t = touched_start e c Covered (n ∷ p) h
whole_in e c (n ∷ p) h Covered [] t = absurd (false≢true t)
whole_in e c (n ∷ p) h part (m ∷ q) t =
    let a = and_parts (bytes_eq n m) (whole_below p part q) t in
    subst (λ (k : Name). e part (k ∷ q) ≡ true) ((bytes_eq-Decides n m).0 a.0)
    (whole_in (λ r u. e r (n ∷ u))
    (record { beginnings = λ u v. c.beginnings (n ∷ u) v; longer = λ u v r. c.longer (n ∷ u) v r }) p h part q a.1)

begins_in : (e : NameSet) → IsClosed e → (p q : Path) → e Touched p ≡ true → begins q p ≡ true → e Touched q ≡ true
begins_in e c p [] h t = c.beginnings [] p h
begins_in e c [] (m ∷ q) h t = absurd (false≢true t)
begins_in e c (n ∷ p) (m ∷ q) h t =
    let a = and_parts (bytes_eq n m) (begins q p) t in
    subst (λ (k : Name). e Touched (k ∷ q) ≡ true) ((bytes_eq-Decides n m).0 a.0)
    (begins_in (λ r u. e r (n ∷ u))
    (record { beginnings = λ u v. c.beginnings (n ∷ u) v; longer = λ u v r. c.longer (n ∷ u) v r }) p q h a.1)

-- a name set has what a path has that it touches, and what one has whole that it covers
touched_in : (f : NameSet) → IsNameSet f → (p : Path) → f Touched p ≡ true → IsBelow (touched_path p) f
touched_in f names p h part [] t = absurd (false≢true t)
touched_in f names p h Covered (m ∷ q) t = absurd (false≢true t)
touched_in f names [] h Touched (m ∷ q) t = absurd (false≢true t)
touched_in f names (n ∷ p) h Touched (m ∷ q) t =
    let a = and_parts (bytes_eq n m) (begins q p) t in
    subst (λ (k : Name). f Touched (k ∷ q) ≡ true) ((bytes_eq-Decides n m).0 a.0)
    (begins_in (λ r u. f r (n ∷ u)) (names n) p q h a.1)

whole_path_in : (f : NameSet) → IsNameSet f → (p : Path) → f Covered p ≡ true → IsBelow (whole_path p) f
whole_path_in f names [] h part q t = absurd (false≢true t)
whole_path_in f names (n ∷ p) h part [] t = absurd (false≢true t)
whole_path_in f names (n ∷ p) h part (m ∷ q) t =
    let a = and_parts (bytes_eq n m) (whole_below p part q) t in
    subst (λ (k : Name). f part (k ∷ q) ≡ true) ((bytes_eq-Decides n m).0 a.0)
    (whole_in (λ r u. f r (n ∷ u)) (names n) p h part q a.1)

none_in : (f : NameSet) → IsBelow (touched_path []) f
none_in f part [] t = absurd (false≢true t)
none_in f Touched (m ∷ q) t = absurd (false≢true t)
none_in f Covered (m ∷ q) t = absurd (false≢true t)

-- a name set has what each single demand of its paths has
set_in : (f : NameSet) → IsNameSet f → (d : NameDemand) → set_demands f d ≡ true → IsBelow (one d) f
set_in f names names_but_default h = absurd (false≢true h)
set_in f names each_name h = absurd (false≢true h)
set_in f names (subset_at []) h = none_in f
set_in f names (subset_at (n ∷ p)) h = touched_in f names (n ∷ p) (and_parts (f Touched (n ∷ p)) (not (f Covered (n ∷ p))) h).0
set_in f names (whole_at p) h = whole_path_in f names p (whole_covered f p h)

-- each form has the paths of a name set
form_set : (x : ImportedExports) → IsNameSet (imported x)
form_set Star n = record { beginnings = λ p q t. t; longer = λ p q part t. t }
form_set StarWithDefault n = record { beginnings = λ p q t. refl; longer = λ p q part t. refl }
form_set (Subset s) n = own_set s n

-- and so has a path that is touched
begins_less : (q r p : Path) → begins (q ++ r) p ≡ true → begins q p ≡ true
begins_less [] r p t = refl
begins_less (m ∷ q) r [] t = absurd (false≢true t)
begins_less (m ∷ q) r (n ∷ p) t =
    let a = and_parts (bytes_eq n m) (begins (q ++ r) p) t in and_from (bytes_eq n m) (begins q p) a.0 (begins_less q r p a.1)

touched_set : (p : Path) → IsNameSet (touched_path p)
touched_set p n = record {
  beginnings = λ q r t. begins_less (n ∷ q) r p t;
  longer = λ q r part t. absurd (false≢true t);
}

-- or whole
whole_less : (p q r : Path) → whole_below p Touched (q ++ r) ≡ true → whole_below p Touched q ≡ true
whole_less [] q r t = refl
whole_less (n ∷ p) [] r t = refl
whole_less (n ∷ p) (m ∷ q) r t =
    let a = and_parts (bytes_eq n m) (whole_below p Touched (q ++ r)) t in
    and_from (bytes_eq n m) (whole_below p Touched q) a.0 (whole_less p q r a.1)

whole_more : (p q r : Path) (part : Part) → whole_below p Covered q ≡ true → whole_below p part (q ++ r) ≡ true
whole_more [] q r part t = refl
whole_more (n ∷ p) [] r part t = absurd (false≢true t)
whole_more (n ∷ p) (m ∷ q) r part t =
    let a = and_parts (bytes_eq n m) (whole_below p Covered q) t in
    and_from (bytes_eq n m) (whole_below p part (q ++ r)) a.0 (whole_more p q r part a.1)

pub whole_set : (p : Path) → IsNameSet (whole_path p)
whole_set [] n = record { beginnings = λ q r t. absurd (false≢true t); longer = λ q r part t. absurd (false≢true t) }
whole_set (n ∷ p) m = record {
  beginnings = λ q r t.
      let a = and_parts (bytes_eq n m) (whole_below p Touched (q ++ r)) t in
      and_from (bytes_eq n m) (whole_below p Touched q) a.0 (whole_less p q r a.1);
  longer = λ q r part t.
      let a = and_parts (bytes_eq n m) (whole_below p Covered q) t in
      and_from (bytes_eq n m) (whole_below p part (q ++ r)) a.0 (whole_more p q r part a.1);
}

-- names have what each single demand of theirs has
pub one_in : (x : ImportedExports) (d : NameDemand) → asked x d ≡ true → IsBelow (one d) (imported x)
one_in Star names_but_default h = λ part p t. t
one_in Star each_name h = absurd (false≢true h)
one_in Star (subset_at p) h = absurd (false≢true h)
one_in Star (whole_at p) h = absurd (false≢true h)
one_in StarWithDefault names_but_default h = absurd (false≢true h)
one_in StarWithDefault each_name h = λ part p t. t
one_in StarWithDefault (subset_at p) h = absurd (false≢true h)
one_in StarWithDefault (whole_at p) h = absurd (false≢true h)
one_in (Subset s) d h = set_in (paths s) (own_set s) d h

-- and a demand has what each single demand has for which it stands
pub asked_in : (d e : NameDemand) → asked_by d e ≡ true → IsBelow (one e) (one d)
asked_in names_but_default e h = one_in Star e h
asked_in each_name e h = one_in StarWithDefault e h
asked_in (subset_at p) e h = set_in (touched_path p) (touched_set p) e h
asked_in (whole_at p) e h = set_in (whole_path p) (whole_set p) e h

-- a path that is among what was demanded was demanded
pub path_in : (x : ImportedExports) (d : NameDemand) → has_path x d ≡ true → IsBelow (one d) (imported x)
path_in x names_but_default h = absurd (false≢true h)
path_in x each_name h = absurd (false≢true h)
path_in x (subset_at []) h = absurd (false≢true h)
path_in x (subset_at (n ∷ p)) h = touched_in (imported x) (form_set x) (n ∷ p) h
path_in x (whole_at []) h = absurd (false≢true h)
path_in x (whole_at (n ∷ p)) h = whole_path_in (imported x) (form_set x) (n ∷ p) h

-- stars have all names but `default`
pub star_in : (x : ImportedExports) (d : NameDemand) → IsStarred d → IsBelow (one d) (imported x) → IsBelow all_but_default (imported x)
star_in x names_but_default s h = h
star_in x each_name s h = λ part p t. h part p (star_below_all part p t)
star_in x (subset_at p) s h = absurd s
star_in x (whole_at p) s h = absurd s

flip : (n m : Name) → bytes_eq n m ≡ true → bytes_eq m n ≡ true
flip n m h = (bytes_eq-Decides m n).1 (sym ((bytes_eq-Decides n m).0 h))

-- and what has `default` touches it
pub default_in : (x : ImportedExports) (d : NameDemand) → HasDefault d → IsBelow (one d) (imported x) →
    imported x Touched (default_name ∷ []) ≡ true
default_in x names_but_default s h = absurd s
default_in x each_name s h = h Touched (default_name ∷ []) refl
default_in x (subset_at []) s h = absurd s
default_in x (subset_at (n ∷ q)) s h = h Touched (default_name ∷ []) (and_from (bytes_eq n default_name) true (flip default_name n s) refl)
default_in x (whole_at []) s h = absurd s
default_in x (whole_at (n ∷ q)) s h = h Touched (default_name ∷ [])
    (and_from (bytes_eq n default_name) (whole_below q Touched []) (flip default_name n s)
    (whole_start q))
  where
    whole_start : (q : Path) → whole_below q Touched [] ≡ true
    whole_start [] = refl
    whole_start (m ∷ q) = refl

-- a single demand is of names
pub one_below_all : (d : NameDemand) → IsBelow (one d) all_names
one_below_all names_but_default = star_below_all
one_below_all each_name = λ part p t. t
one_below_all (subset_at p) = λ part q t. by_first part q t
  where
    by_first : (part : Part) (q : Path) → touched_path p part q ≡ true → all_names part q ≡ true
    by_first part [] t = absurd (false≢true t)
    by_first part (m ∷ q) t = refl
one_below_all (whole_at []) = λ part q t. absurd (false≢true t)
one_below_all (whole_at (n ∷ p)) = λ part q t. by_first part q t
  where
    by_first : (part : Part) (q : Path) → whole_path (n ∷ p) part q ≡ true → all_names part q ≡ true
    by_first part [] t = absurd (false≢true t)
    by_first part (m ∷ q) t = refl
