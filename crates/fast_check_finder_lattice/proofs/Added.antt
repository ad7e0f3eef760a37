-- What `add` does, case by case.
use Rattle.std.proofs.Common.{◌≡◌, ◌∙◌, sym, ap, refl, subst, inl, inr, ◌⊎◌, ◌↔◌, Bool, true, false, ◌&&◌, ◌||◌, not, [], ◌∷◌, Option, Some}
use Rattle.std.proofs.Common.{None}
use Rattle.std.proofs.lemmas.Bool.{false≢true, or_left, or_right}
use Rattle.std.proofs.lemmas.Slice.Eq.{bytes_eq-Decides}
use Rattle.std.specs.Str.{bytes_eq}
use Rattle.fast_check_finder_lattice.specs.declared.lattice.named_subset.NamedSubset.{NamedSubset}
use Rattle.fast_check_finder_lattice.specs.declared.lattice.imported_exports.ImportedExports.{ImportedExports}
use Rattle.fast_check_finder_lattice.specs.declared.lattice.imported_exports.ImportedExports.TheVariants.{Star, StarWithDefault, Subset}
use Rattle.fast_check_finder_lattice.specs.Names.{Name, Path, Touched, Covered, paths, nothing, whole, has_subset, has_whole, IsSame, IsBelow}
use Rattle.fast_check_finder_lattice.specs.Names.{IsJoin, IsJoined, HasMore, IsDifference}
use Rattle.fast_check_finder_lattice.specs.Imports.{default_name, all_but_default, all_names, imported, answered, IsLeastForm, IsAnswer, NameDemand}
use Rattle.fast_check_finder_lattice.specs.Imports.{names_but_default, each_name, subset_at, whole_at, demands, is_star, IsWidened, IsAdded}
use Rattle.fast_check_finder_lattice.proofs.Sets.{same_subset, same_whole}
use Rattle.fast_check_finder_lattice.proofs.Shapes.{own_set}
use Rattle.fast_check_finder_lattice.proofs.Forms.{more_than_star, more_than_all, star_below_all, set_below_all, set_below_star, least_all}
use Rattle.fast_check_finder_lattice.proofs.Forms.{new_above, join_nothing, join_above, join_default, join_whole_default}
use Rattle.fast_check_finder_lattice.proofs.Walks.{none_some}

some_is : (x y : ImportedExports) → Some x ≡ Some y → x ≡ y
some_is x y e = cc

-- the state stays where None is answered, and nowhere else
stays_by : (old state : ImportedExports) (answer : Option ImportedExports) → IsJoin (imported old) (answered answer) (imported state) →
    ((x : ImportedExports) → answer ≡ Some x → HasMore (imported x) (imported old)) → (answer ≡ None) ↔
    IsSame (imported state) (imported old)
stays_by old state None join progress = (λ e part p. join part p ∙ or_nothing (imported old part p), λ same. refl)
  where
    or_nothing : (b : Bool) → (b || false) ≡ b
    or_nothing true = refl
    or_nothing false = refl
stays_by old state (Some x) join progress = (
  λ e. absurd (none_some x (sym e)),
  λ same.
      let more = progress x refl in
      absurd (false≢true (sym more.3 ∙ (sym (same more.0 more.1) ∙
      (join more.0 more.1 ∙ or_right (imported old more.0 more.1) (imported x more.0 more.1) more.2)))),
)

-- an answer that is x
answer_of : (x : ImportedExports) (P : ImportedExports → Type 0) → P x → (y : ImportedExports) → Some x ≡ Some y → P y
answer_of x P p y e = subst P (some_is x y e) p

no_answer : (P : ImportedExports → Type 0) (y : ImportedExports) → None ≡ Some y → P y
no_answer P y e = absurd (none_some y e)

left_of : (old new : ImportedExports) (d : NameDemand) → demands old d ≡ true → ((demands old d || demands new d) ≡ true) ⊎
    IsWidened old new d
left_of old new d t = inl (or_left (demands old d) (demands new d) t)

right_of : (old new : ImportedExports) (d : NameDemand) → demands new d ≡ true → ((demands old d || demands new d) ≡ true) ⊎
    IsWidened old new d
right_of old new d t = inl (or_right (demands old d) (demands new d) t)

-- nothing is new
unchanged : (old new : ImportedExports) → IsBelow (imported new) (imported old) → IsAnswer old new None → IsAdded old new None old
unchanged old new below answer = record {
  form = record { above_old = λ part p t. t; above_new = below; least = λ x a b. a };
  covered = join_nothing (imported old);
  answer_is = answer;
  stays = stays_by old old None (join_nothing (imported old)) (λ y e. no_answer (λ x. HasMore (imported x) (imported old)) y e);
  progress = λ y e. no_answer (λ x. HasMore (imported x) (imported old)) y e;
  of_new = λ y e. no_answer (λ y. (d : NameDemand) → demands y d ≡ true → (demands new d ≡ true) ⊎ IsWidened old new d) y e;
  of_either = left_of old new;
}

not_default_star : (new : ImportedExports) → imported new Touched (default_name ∷ []) ≡ false → IsBelow (imported new) all_but_default
not_default_star Star h = λ part p t. t
not_default_star StarWithDefault h = absurd (false≢true (sym h))
not_default_star (Subset s) h = set_below_star s h

pub added_to_star : (new : ImportedExports) → imported new Touched (default_name ∷ []) ≡ false → IsAdded Star new None Star
added_to_star new h = unchanged Star new (not_default_star new h) (λ t. absurd (false≢true (sym h ∙ t)), λ e. refl)

-- the demands of all names are widened ones
each_is_widened : (old new : ImportedExports) → (is_star old || is_star new) ≡ true →
    (imported old Touched (default_name ∷ []) || imported new Touched (default_name ∷ [])) ≡ true → (d : NameDemand) →
    demands StarWithDefault d ≡ true →
    IsWidened old new d
each_is_widened old new star default names_but_default t = absurd (false≢true t)
each_is_widened old new star default each_name t = record { widens_to = inr refl; star = star; default = default }
each_is_widened old new star default (subset_at p) t = absurd (false≢true t)
each_is_widened old new star default (whole_at p) t = absurd (false≢true t)

and_not : (b : Bool) → (b && not b) ≡ true → ⊥
and_not true h = false≢true h
and_not false h = false≢true h

-- of `default` alone, whole, no subset stands
no_subset : (p : Path) → has_subset (whole default_name []) p ≡ true → ⊥
no_subset [] h = false≢true h
no_subset (n ∷ q) h = and_not (bytes_eq default_name n && true) h

fixed_whole : (b : Bool) (p : Path) → has_whole (λ part q. b) p ≡ true → b ≡ true
fixed_whole b [] h = h
fixed_whole true (n ∷ p) h = refl
fixed_whole false (n ∷ p) h = fixed_whole false p h

fixed_once : (b : Bool) (n : Name) (p : Path) → has_whole (λ part q. b) (n ∷ p) ≡ true → ⊥
fixed_once true n p h = false≢true h
fixed_once false n p h = false≢true (fixed_whole false p h)

and_true : (b : Bool) → (b && true) ≡ true → b ≡ true
and_true true h = refl
and_true false h = h

-- and the one whole path is `default`
only_default : (p : Path) → has_whole (whole default_name []) p ≡ true → p ≡ default_name ∷ []
only_default [] h = absurd (false≢true h)
only_default (n ∷ []) h = ap (λ (m : Name). m ∷ []) (sym ((bytes_eq-Decides default_name n).0 (and_true (bytes_eq default_name n) h)))
only_default (n ∷ m ∷ q) h = absurd (fixed_once (bytes_eq default_name n && true) m q h)

default_is_widened : (old new : ImportedExports) (s : NamedSubset) → IsSame (paths s) (whole default_name []) →
    (is_star old || is_star new) ≡ true →
    (imported old Touched (default_name ∷ []) || imported new Touched (default_name ∷ [])) ≡ true → (d : NameDemand) →
    demands (Subset s) d ≡ true →
    IsWidened old new d
default_is_widened old new s e star default names_but_default t = absurd (false≢true t)
default_is_widened old new s e star default each_name t = absurd (false≢true t)
default_is_widened old new s e star default (subset_at p) t = absurd
    (no_subset p (sym (same_subset (paths s) (whole default_name []) e p) ∙ t))
default_is_widened old new s e star default (whole_at p) t =
    record {
      widens_to = inl (ap whole_at (only_default p (sym (same_whole (paths s) (whole default_name []) e p) ∙ t)));
      star =
          star;
      default = default;
    }

-- `default` comes to all other names
pub added_default : (new : ImportedExports) (s : NamedSubset) → imported new Touched (default_name ∷ []) ≡ true →
    IsSame (paths s) (whole default_name []) →
    IsAdded Star new (Some (Subset s)) StarWithDefault
added_default new s h e = record {
  form = record { above_old = star_below_all; above_new = new_above new; least = λ x a b. least_all x a (b Touched (default_name ∷ []) h) };
  covered = join_default s e;
  answer_is = (λ t. e, λ f. absurd (false≢true (sym f ∙ h)));
  stays = stays_by Star StarWithDefault (Some (Subset s)) (join_default s e) progress;
  progress = progress;
  of_new = answer_of (Subset s) (λ y. (d : NameDemand) → demands y d ≡ true → (demands new d ≡ true) ⊎ IsWidened Star new d)
      (λ d t. inr (default_is_widened Star new s e refl h d t));
  of_either = λ d t. inr (each_is_widened Star new refl h d t);
}
  where
    progress : (y : ImportedExports) → Some (Subset s) ≡ Some y → HasMore (imported y) all_but_default
    progress = answer_of (Subset s) (λ y. HasMore (imported y) all_but_default)
        (Touched, default_name ∷ [], e Touched (default_name ∷ []), refl)

-- all names come to a set
pub added_all : (s : NamedSubset) → IsAdded (Subset s) StarWithDefault (Some StarWithDefault) StarWithDefault
added_all s = record {
  form = record { above_old = set_below_all s; above_new = λ part p t. t; least = λ x a b. b };
  covered = join_above (paths s) all_names (set_below_all s);
  answer_is = refl;
  stays = stays_by (Subset s) StarWithDefault (Some StarWithDefault) (join_above (paths s) all_names (set_below_all s)) progress;
  progress = progress;
  of_new = answer_of StarWithDefault (λ y. (d : NameDemand) → demands y d ≡ true →
      (demands StarWithDefault d ≡ true) ⊎ IsWidened (Subset s) StarWithDefault d) (λ d t. inl t);
  of_either = right_of (Subset s) StarWithDefault;
}
  where
    progress : (y : ImportedExports) → Some StarWithDefault ≡ Some y → HasMore (imported y) (paths s)
    progress = answer_of StarWithDefault (λ y. HasMore (imported y) (paths s)) (more_than_all s)

untouched : (x y : Bool) → x ≡ false → (x && y) ≡ false
untouched true y h = cc
untouched false y h = refl

-- all names but `default` come to a set without `default`
pub added_star : (s : NamedSubset) → paths s Touched (default_name ∷ []) ≡ false → IsAdded (Subset s) Star (Some Star) Star
added_star s h = record {
  form = record { above_old = set_below_star s h; above_new = λ part p t. t; least = λ x a b. b };
  covered = join_above (paths s) all_but_default (set_below_star s h);
  answer_is = (
    λ t. absurd (false≢true (sym (untouched (paths s Touched (default_name ∷ [])) (not (paths s Covered (default_name ∷ []))) h) ∙ t)),
    λ f. refl,
  );
  stays = stays_by (Subset s) Star (Some Star) (join_above (paths s) all_but_default (set_below_star s h)) progress;
  progress = progress;
  of_new = answer_of Star (λ y. (d : NameDemand) → demands y d ≡ true → (demands Star d ≡ true) ⊎ IsWidened (Subset s) Star d)
      (λ d t. inl t);
  of_either = right_of (Subset s) Star;
}
  where
    progress : (y : ImportedExports) → Some Star ≡ Some y → HasMore (imported y) (paths s)
    progress = answer_of Star (λ y. HasMore (imported y) (paths s)) (more_than_star s)

module _ (s : NamedSubset) (touched : paths s Touched (default_name ∷ []) ≡ true) where
  form : IsLeastForm (Subset s) Star StarWithDefault
  form = record {
    above_old = set_below_all s;
    above_new = star_below_all;
    least =
        λ x a b. least_all x b (a Touched (default_name ∷ []) touched);
  }

  touches : (paths s Touched (default_name ∷ []) || all_but_default Touched (default_name ∷ [])) ≡ true
  touches = or_left (paths s Touched (default_name ∷ [])) (all_but_default Touched (default_name ∷ [])) touched

  -- the same where something below `default` was there
  pub added_star_to_part : has_subset (paths s) (default_name ∷ []) ≡ true → IsAdded (Subset s) Star (Some StarWithDefault) StarWithDefault
  added_star_to_part h = record {
    form = form;
    covered = join_above (paths s) all_names (set_below_all s);
    answer_is = (λ t. refl, λ f. absurd (false≢true (sym f ∙ h)));
    stays = stays_by (Subset s) StarWithDefault (Some StarWithDefault) (join_above (paths s) all_names (set_below_all s)) progress;
    progress = progress;
    of_new = answer_of StarWithDefault (λ y. (d : NameDemand) → demands y d ≡ true → (demands Star d ≡ true) ⊎ IsWidened (Subset s) Star d)
        (λ d t. inr (each_is_widened (Subset s) Star refl touches d t));
    of_either = λ d t. inr (each_is_widened (Subset s) Star refl touches d t);
  }
    where
      progress : (y : ImportedExports) → Some StarWithDefault ≡ Some y → HasMore (imported y) (paths s)
      progress = answer_of StarWithDefault (λ y. HasMore (imported y) (paths s)) (more_than_all s)

  covered_by : (x y : Bool) → x ≡ true → (x && not y) ≡ false → y ≡ true
  covered_by true true e h = refl
  covered_by true false e h = cc
  covered_by false y e h = absurd (false≢true e)

  -- the same where `default` was there whole
  pub added_star_to_whole : has_subset (paths s) (default_name ∷ []) ≡ false → IsAdded (Subset s) Star (Some Star) StarWithDefault
  added_star_to_whole h = record {
    form = form;
    covered = join;
    answer_is = (λ t. absurd (false≢true (sym h ∙ t)), λ f. refl);
    stays = stays_by (Subset s) StarWithDefault (Some Star) join progress;
    progress = progress;
    of_new = answer_of Star (λ y. (d : NameDemand) → demands y d ≡ true → (demands Star d ≡ true) ⊎ IsWidened (Subset s) Star d)
        (λ d t. inl t);
    of_either = λ d t. inr (each_is_widened (Subset s) Star refl touches d t);
  }
    where
      join : IsJoin (paths s) all_but_default all_names
      join = join_whole_default s (covered_by (paths s Touched (default_name ∷ [])) (paths s Covered (default_name ∷ [])) touched h)

      progress : (y : ImportedExports) → Some Star ≡ Some y → HasMore (imported y) (paths s)
      progress = answer_of Star (λ y. HasMore (imported y) (paths s)) (more_than_star s)

-- a set comes to a set
module _ (s t j d : NamedSubset) (joined : IsJoined (paths s) (paths t) (paths j)) (rest : IsDifference (paths s) (paths t) (paths d)) where
  -- the new names are in the old set or the difference
  in_rest : IsBelow (paths t) (λ part p. paths s part p || paths d part p)
  in_rest = (rest.least (paths d) (own_set d)).0 (λ part p u. u)

  -- and the difference in the new names
  rest_new : IsBelow (paths d) (paths t)
  rest_new = (rest.least (paths t) (own_set t)).1 (λ part p u. or_right (paths s part p) (paths t part p) u)

  same_or : (a b c : Bool) → (b ≡ true → (a || c) ≡ true) → (c ≡ true → b ≡ true) → (a || b) ≡ (a || c)
  same_or true b c h k = refl
  same_or false true c h k = sym (h refl)
  same_or false false true h k = k refl
  same_or false false false h k = refl

  join_rest : IsJoin (paths s) (paths d) (paths j)
  join_rest part p = joined.join part p ∙ same_or (paths s part p) (paths t part p) (paths d part p) (in_rest part p) (rest_new part p)

  least : IsLeastForm (Subset s) (Subset t) (Subset j)
  least = record {
    above_old = λ part p u. joined.join part p ∙ or_left (paths s part p) (paths t part p) u;
    above_new = λ part p u. joined.join part p ∙ or_right (paths s part p) (paths t part p) u;
    least = λ x a b part p u. either (paths s part p) (paths t part p) (imported x part p) (a part p) (b part p)
        (sym (joined.join part p) ∙ u);
  }
    where
      either : (a b c : Bool) → (a ≡ true → c ≡ true) → (b ≡ true → c ≡ true) → (a || b) ≡ true → c ≡ true
      either true b c h k u = h refl
      either false b c h k u = k u

  of_either : (e : NameDemand) → demands (Subset j) e ≡ true → ((demands (Subset s) e || demands (Subset t) e) ≡ true) ⊎
      IsWidened (Subset s) (Subset t) e
  of_either names_but_default u = absurd (false≢true u)
  of_either each_name u = absurd (false≢true u)
  of_either (subset_at p) u = inl (joined.of_either.subsets p u)
  of_either (whole_at p) u = inl (joined.of_either.wholes p u)

  of_new : (e : NameDemand) → demands (Subset d) e ≡ true → (demands (Subset t) e ≡ true) ⊎ IsWidened (Subset s) (Subset t) e
  of_new names_but_default u = absurd (false≢true u)
  of_new each_name u = absurd (false≢true u)
  of_new (subset_at p) u = inl (rest.of_new.subsets p u)
  of_new (whole_at p) u = inl (rest.of_new.wholes p u)

  pub added_names : (n : Name) → paths d Touched (n ∷ []) ≡ true → IsAdded (Subset s) (Subset t) (Some (Subset d)) (Subset j)
  added_names n has = record {
    form = least;
    covered = join_rest;
    answer_is = (rest, n, has);
    stays = stays_by (Subset s) (Subset j) (Some (Subset d)) join_rest progress;
    progress = progress;
    of_new = answer_of (Subset d)
        (λ y. (e : NameDemand) → demands y e ≡ true → (demands (Subset t) e ≡ true) ⊎ IsWidened (Subset s) (Subset t) e) of_new;
    of_either = of_either;
  }
    where
      progress : (y : ImportedExports) → Some (Subset d) ≡ Some y → HasMore (imported y) (paths s)
      progress =
          let h = rest.progress n has in
          answer_of (Subset d) (λ y. HasMore (imported y) (paths s)) (h.0, n ∷ h.1, h.2, h.3)

  or_absent : (a c : Bool) → c ≡ false → (a || c) ≡ true → a ≡ true
  or_absent true c e h = refl
  or_absent false c e h = absurd (false≢true (sym e ∙ h))

  pub added_no_names : IsSame (paths d) nothing → IsAdded (Subset s) (Subset t) None (Subset j)
  added_no_names empty = record {
    form = least;
    covered = join;
    answer_is = below;
    stays = stays_by (Subset s) (Subset j) None join (λ y e. no_answer (λ x. HasMore (imported x) (paths s)) y e);
    progress = λ y e. no_answer (λ x. HasMore (imported x) (paths s)) y e;
    of_new = λ y e. no_answer
        (λ y. (e : NameDemand) → demands y e ≡ true → (demands (Subset t) e ≡ true) ⊎ IsWidened (Subset s) (Subset t) e) y e;
    of_either = of_either;
  }
    where
      below : IsBelow (paths t) (paths s)
      below part p u = or_absent (paths s part p) (paths d part p) (empty part p) (in_rest part p u)

      join : IsJoin (paths s) nothing (paths j)
      join part p = join_rest part p ∙ ap (λ b. paths s part p || b) (empty part p)
