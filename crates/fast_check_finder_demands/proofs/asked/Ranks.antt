-- What can still be new falls.
use Rattle.std.proofs.Common.{◌≡◌, ◌∙◌, sym, ap, refl, subst, ℕ, ◌+◌, ◌<◌, ◌≤◌, Bool, true, false, not, List, [], ◌∷◌, ◌++◌, Some, None}
use Rattle.std.proofs.Common.{length, ⊎_elim, arith}
use Rattle.std.specs.List.{Contains}
use Rattle.std.proofs.lemmas.Bool.{cases_Bool, false≢true, and_from}
use Rattle.fast_check_finder_lattice.specs.declared.lattice.named_subset.NamedSubset.{NamedSubset}
use Rattle.fast_check_finder_lattice.specs.declared.lattice.imported_exports.ImportedExports.{ImportedExports}
use Rattle.fast_check_finder_lattice.specs.declared.lattice.imported_exports.ImportedExports.TheVariants.{Star, StarWithDefault, Subset}
use Rattle.fast_check_finder_lattice.specs.Names.{Path, Part, Touched, Covered, NameSet, paths, has_whole, IsBelow, HasMore}
use Rattle.fast_check_finder_lattice.proofs.Paths.{paths_opened_nil}
use Rattle.fast_check_finder_lattice.proofs.Shapes.{own_set}
use Rattle.fast_check_finder_lattice.specs.Imports.{default_name, imported, NameDemand, subset_at, whole_at}
use Rattle.fast_check_finder_lattice.proofs.Forms.{not_all, star_below_all, new_above}
use Rattle.fast_check_finder_demands.specs.asked.Demands.{asked}
use Rattle.fast_check_finder_demands.specs.asked.Measure.{IsWithin, cost, total, missing, rank}
use Rattle.fast_check_finder_demands.proofs.asked.Maps.{split_in, none_in}
use Rattle.fast_check_finder_demands.proofs.asked.Single.{whole_covered}

pub cost_le : (a b : Bool) → (a ≡ true → b ≡ true) → cost b ≤ cost a
cost_le true true h = omega arith
cost_le true false h = absurd (false≢true (h refl))
cost_le false true h = omega arith
cost_le false false h = omega arith

cost_max : (a : Bool) → cost a ≤ 1
cost_max true = omega arith
cost_max false = omega arith

missing_le : (f g : NameSet) (ps : List Path) → IsBelow f g → missing g ps ≤ missing f ps
missing_le f g [] h = omega arith
missing_le f g (p ∷ ps) h = omega (
  arith,
  cost_le (f Touched p) (g Touched p) (h Touched p),
  cost_le (f Covered p) (g Covered p)
      (h Covered p),
  missing_le f g ps h,
)

missing_max : (f : NameSet) (ps : List Path) → missing f ps ≤ length ps + length ps
missing_max f [] = omega arith
missing_max f (p ∷ ps) = omega (arith, cost_max (f Touched p), cost_max (f Covered p), missing_max f ps)

missing_less : (f g : NameSet) (ps : List Path) (part : Part) (p : Path) → IsBelow f g → Contains ps p → f part p ≡ false →
    g part p ≡ true →
    missing g ps < missing f ps
missing_less f g [] part p h c lacks has = absurd (none_in p c)
missing_less f g (q ∷ ps) part p h c lacks has =
    ⊎_elim
    (λ e.
    here part (subst (λ (r : Path). f part r ≡ false) (sym e) lacks) (subst (λ (r : Path). g part r ≡ true) (sym e) has))
    (λ r. omega (
      arith,
      cost_le (f Touched q) (g Touched q) (h Touched q),
      cost_le (f Covered q) (g Covered q)
          (h Covered q),
      missing_less f g ps part p h r lacks has,
    ))
    (split_in q p ps c)
  where
    here : (part : Part) → f part q ≡ false → g part q ≡ true → missing g (q ∷ ps) < missing f (q ∷ ps)
    here Touched a b = omega (arith, ap cost a, ap cost b, cost_le (f Covered q) (g Covered q) (h Covered q), missing_le f g ps h)
    here Covered a b = omega (arith, ap cost a, ap cost b, cost_le (f Touched q) (g Touched q) (h Touched q), missing_le f g ps h)

pub rank_le : (ps : List Path) (h s : ImportedExports) → IsBelow (imported h) (imported s) → rank ps (Some s) ≤ rank ps (Some h)
rank_le ps Star Star b = omega arith
rank_le ps Star StarWithDefault b = omega arith
rank_le ps Star (Subset s) b = absurd (not_all s b)
rank_le ps StarWithDefault Star b = absurd (false≢true (b Touched (default_name ∷ []) refl))
rank_le ps StarWithDefault StarWithDefault b = omega arith
rank_le ps StarWithDefault (Subset s) b = absurd (not_all s (λ part p t. b part p (star_below_all part p t)))
rank_le ps (Subset s) Star b = omega arith
rank_le ps (Subset s) StarWithDefault b = omega arith
rank_le ps (Subset s) (Subset r) b = omega (arith, missing_le (paths s) (paths r) ps b)

pub rank_some : (ps : List Path) (s : ImportedExports) → rank ps (Some s) < rank ps None
rank_some ps Star = omega arith
rank_some ps StarWithDefault = omega arith
rank_some ps (Subset s) = omega (arith, missing_max (paths s) ps)

-- the first beginning that is whole
pub first_whole : (f : NameSet) (p : Path) → f Covered p ≡ true → (q r : Path) × (p ≡ q ++ r) × (has_whole f q ≡ true)
first_whole f [] h = ([], [], refl, h)
first_whole f (n ∷ p) h =
    ⊎_elim (λ t. ([], n ∷ p, refl, t))
    (λ e.
    let b = first_whole (λ part q. f part (n ∷ q)) p h in
    (n ∷ b.0, b.1, ap (λ (q : Path). n ∷ q) b.2, and_from (not (f Covered [])) (has_whole (λ part q. f part (n ∷ q)) b.0) (ap not e) b.3))
    (cases_Bool (f Covered []))

-- a single demand of y, whose path is new beside h
record IsNew (y h : NamedSubset) : Type 0 where
  pub part : Part
  pub path : Path
  pub demand : NameDemand
  pub has : asked (Subset y) demand ≡ true
  pub within : (ps : List Path) → IsWithin ps demand → Contains ps path
  pub lacks : paths h part path ≡ false
  pub holds : paths y part path ≡ true

covers_more : (h : NamedSubset) (q r : Path) (part : Part) → paths h Covered q ≡ true → paths h part (q ++ r) ≡ true
covers_more h [] r part t = absurd (false≢true (sym (paths_opened_nil h Covered) ∙ t))
covers_more h (n ∷ q) r part t = (own_set h n).longer q r part t

new_one : (y h : NamedSubset) → HasMore (paths y) (paths h) → IsNew y h
new_one y h more = go more.0 more.1 more.2 more.3
  where
    covered : (part : Part) (p : Path) → paths y Covered p ≡ true → paths h part p ≡ false → IsNew y h
    covered part p t l =
        let w = first_whole (paths y) p t in
        record {
          part = Covered;
          path = w.0;
          demand = whole_at w.0;
          has = w.3;
          within = λ ps c. c;
          lacks = ⊎_elim (λ c. absurd (false≢true (sym l ∙ (ap (paths h part) w.2 ∙ covers_more h w.0 w.1 part c)))) (λ f. f)
              (cases_Bool (paths h Covered w.0));
          holds = whole_covered (paths y) w.0 w.3;
        }

    go : (part : Part) (p : Path) → paths y part p ≡ true → paths h part p ≡ false → IsNew y h
    go Covered p t l = covered Covered p t l
    go Touched [] t l = absurd (false≢true (sym (paths_opened_nil y Touched) ∙ t))
    go Touched (n ∷ p) t l =
        ⊎_elim (λ c. covered Touched (n ∷ p) c l)
        (λ f. record {
          part = Touched;
          path = n ∷ p;
          demand = subset_at (n ∷ p);
          has = and_from (paths y Touched (n ∷ p)) (not (paths y Covered (n ∷ p))) t (ap not f);
          within = λ ps c. c;
          lacks = l;
          holds = t;
        })
        (cases_Bool (paths y Covered (n ∷ p)))

-- where something is new, less can be new
pub rank_falls : (ps : List Path) (h y s : ImportedExports) → IsBelow (imported h) (imported s) → IsBelow (imported y) (imported s) →
    HasMore (imported y)
    (imported h) → ((d : NameDemand) → asked y d ≡ true → IsWithin ps d) → rank ps (Some s) < rank ps (Some h)
rank_falls ps StarWithDefault y s a b more within = absurd (false≢true (sym more.3 ∙ new_above y more.0 more.1 more.2))
rank_falls ps Star y Star a b more within = absurd (false≢true (sym more.3 ∙ b more.0 more.1 more.2))
rank_falls ps Star y StarWithDefault a b more within = omega arith
rank_falls ps Star y (Subset s) a b more within = absurd (not_all s a)
rank_falls ps (Subset h) y Star a b more within = omega arith
rank_falls ps (Subset h) y StarWithDefault a b more within = omega arith
rank_falls ps (Subset h) Star (Subset s) a b more within = absurd (not_all s b)
rank_falls ps (Subset h) StarWithDefault (Subset s) a b more within = absurd (not_all s (λ part p t. b part p (star_below_all part p t)))
rank_falls ps (Subset h) (Subset y) (Subset s) a b more within =
    let n = new_one y h more in
    omega (
      arith,
      missing_less (paths h) (paths s) ps n.part n.path a (n.within ps (within n.demand n.has)) n.lacks
          (b n.part n.path n.holds),
    )

-- sums
pub total_le : {X : Type 0} (f g : X → ℕ) (xs : List X) → ((x : X) → g x ≤ f x) → total g xs ≤ total f xs
total_le f g [] h = omega arith
total_le f g (x ∷ xs) h = omega (arith, h x, total_le f g xs h)

pub total_less : {X : Type 0} (f g : X → ℕ) (xs : List X) (y : X) → ((x : X) → g x ≤ f x) → Contains xs y → g y < f y →
    total g xs < total f xs
total_less f g [] y h c lt = absurd (none_in y c)
total_less {X} f g (x ∷ xs) y h c lt =
    ⊎_elim (λ e. let l : g x < f x = subst (λ (z : X). g z < f z) (sym e) lt in omega (arith, l, total_le f g xs h))
    (λ r. omega (arith, h x, total_less f g xs y h r lt)) (split_in x y xs c)
