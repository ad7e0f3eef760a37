-- What becomes of the names of a module, when single names are asked of it.
use Rattle.std.proofs.Common.{◌≡◌, ◌∙◌, sym, ap, refl, subst, ◌<◌, ◌≤◌, true, false, not, List, [], ◌∷◌, ◌++◌, Option, Some, None, option_map}
use Rattle.std.proofs.Common.{Bool, ◌⊎◌, inl, inr, ⊎_elim, ◌&&◌, arith}
use Rattle.std.specs.Map.{lookup}
use Rattle.std.specs.Str.{bytes_eq}
use Rattle.std.specs.List.{Contains}
use Rattle.std.proofs.lemmas.Bool.{cases_Bool, false≢true, or_cases, or_right, and_parts, not_from_false}
use Rattle.std.proofs.lemmas.Slice.Eq.{bytes_eq-Decides}
use Rattle.url.specs.Parts.{Parts, serialize}
use Rattle.fast_check_finder_lattice.specs.declared.lattice.named_subset.NamedSubset.{NamedSubset}
use Rattle.fast_check_finder_lattice.specs.declared.lattice.imported_exports.ImportedExports.{ImportedExports}
use Rattle.fast_check_finder_lattice.specs.declared.lattice.imported_exports.ImportedExports.TheVariants.{Star, StarWithDefault, Subset}
use Rattle.fast_check_finder_lattice.specs.Names.{Path, Part, Touched, Covered, NameSet, paths, has_subset, has_whole, whole_path, IsBelow}
use Rattle.fast_check_finder_lattice.proofs.Paths.{paths_opened_nil}
use Rattle.fast_check_finder_lattice.proofs.Shapes.{own_set}
use Rattle.fast_check_finder_lattice.specs.Imports.{default_name, all_but_default, imported, NameDemand, names_but_default, each_name, subset_at, whole_at}
use Rattle.fast_check_finder_lattice.specs.Imports.{IsAnswer, IsDefaultAlone, IsRest, is_star}
use Rattle.fast_check_finder_lattice.specs.Traces.{is_module, HandlesAt}
use Rattle.fast_check_finder_demands.specs.asked.Demands.{Text, asked, asked_by, one, touched_path, set_demands}
use Rattle.fast_check_finder_loop.specs.Account.{IsStarred, HasDefault}
use Rattle.fast_check_finder_loop.specs.Search.{handled_at, was_told, new_beside, new_names, WereAsked, AreAdded, AddsNames}
use Rattle.fast_check_finder_loop.specs.Measure.{IsWithin, rank}
use Rattle.fast_check_finder_demands.proofs.asked.Maps.{some_is}
use Rattle.fast_check_finder_demands.proofs.asked.Taken.{IsTaken, taken}
use Rattle.fast_check_finder_demands.proofs.asked.Single.{one_in, path_in, whole_covered, whole_set}
use Rattle.fast_check_finder_demands.proofs.asked.Ranks.{rank_le, rank_some, rank_falls, first_whole}
use Rattle.fast_check_finder_loop.proofs.Inside.{default_within}
use Rattle.fast_check_finder_loop.proofs.Lists.{mapped_some}

none_some : {X : Type 0} {Z : Type 0} (x : X) → None ≡ Some x → Z
none_some x e = absurd (no x e)
  where
    no : {X : Type 0} (x : X) → None ≡ Some x → ⊥
    no x e = cc

-- a star and `default`, of what was asked and what comes, to which names are widened
pub record IsWidenedFrom (d : NameDemand) (before : Option ImportedExports) (e : NameDemand) : Type 0 where
  pub to : (asked_by (whole_at (default_name ∷ [])) e ≡ true) ⊎ (e ≡ each_name)
  pub by : (IsStarred d × (h : ImportedExports) × (before ≡ Some h) × (imported h Touched (default_name ∷ []) ≡ true)) ⊎
      (HasDefault d × (h : ImportedExports) × (before ≡ Some h) × (is_star h ≡ true))

-- single names of the module under t were asked, and some of them are new
pub record Gains (t : Text) (d : NameDemand) (new : Option NameDemand) (old now : List (Parts × ImportedExports)) : Type 0 where
  pub state : ImportedExports
  pub now_is : handled_at now t ≡ Some state
  pub others : (q : Text) → bytes_eq t q ≡ false → handled_at now q ≡ handled_at old q
  pub above_new : IsBelow (one d) (imported state)
  pub above_old : (h : ImportedExports) → handled_at old t ≡ Some h → IsBelow (imported h) (imported state)
  pub only : (part : Part) (p : Path) → imported state part p ≡ true →
      ((h : ImportedExports) × (handled_at old t ≡ Some h) × (imported h part p ≡ true)) ⊎
      ((e : NameDemand) × (new ≡ Some e) × (one e part p ≡ true))
  pub new_below : (e : NameDemand) → new ≡ Some e → IsBelow (one e) (imported state)
  pub from : (e : NameDemand) → new ≡ Some e → (e ≡ d) ⊎ IsWidenedFrom d (handled_at old t) e
  pub starry : is_star state ≡ true → ((h : ImportedExports) × (handled_at old t ≡ Some h) × (is_star h ≡ true)) ⊎
      ((e : NameDemand) × (new ≡ Some e) × IsStarred e)
  pub none_old : new ≡ None → (h : ImportedExports) × (handled_at old t ≡ Some h)
  pub less : (ps : List Path) → Contains ps (default_name ∷ []) → Contains ps [] → ((c : NameDemand) → asked_by d c ≡ true → IsWithin ps c) →
      (e : NameDemand) → new ≡ Some e → rank ps (Some state) < rank ps (handled_at old t)
  pub le : (ps : List Path) → rank ps (Some state) ≤ rank ps (handled_at old t)

-- which form asks what a single demand asks

star_is : (d : NameDemand) → asked Star ≡ asked_by d → d ≡ names_but_default
star_is names_but_default e = refl
star_is each_name e = absurd (false≢true (sym (ap (λ (f : NameDemand → Bool). f names_but_default) e)))
star_is (subset_at p) e = absurd (false≢true (sym (ap (λ (f : NameDemand → Bool). f names_but_default) e)))
star_is (whole_at p) e = absurd (false≢true (sym (ap (λ (f : NameDemand → Bool). f names_but_default) e)))

each_is : (d : NameDemand) → asked StarWithDefault ≡ asked_by d → d ≡ each_name
each_is names_but_default e = absurd (false≢true (sym (ap (λ (f : NameDemand → Bool). f each_name) e)))
each_is each_name e = refl
each_is (subset_at p) e = absurd (false≢true (sym (ap (λ (f : NameDemand → Bool). f each_name) e)))
each_is (whole_at p) e = absurd (false≢true (sym (ap (λ (f : NameDemand → Bool). f each_name) e)))

-- a set that asks what a path asks has no more than the path
set_exact : (s : NamedSubset) (f : NameSet) → ((n : _) (q r : Path) (part : Part) → f Covered (n ∷ q) ≡ true → f part (n ∷ (q ++ r)) ≡ true) →
    ((p : Path) → has_subset (paths s) p ≡ true → f Touched p ≡ true) → ((p : Path) → has_whole (paths s) p ≡ true → f Covered p ≡ true) →
    IsBelow (paths s) f
set_exact s f longer subsets wholes = go
  where
    covered : (part : Part) (p : Path) → paths s Covered p ≡ true → f part p ≡ true
    covered part p h =
        let w = first_whole (paths s) p h in
        subst (λ (q : Path). f part q ≡ true) (sym w.2) (by w.0 w.1 (wholes w.0 w.3) w.3)
      where
        by : (q r : Path) → f Covered q ≡ true → has_whole (paths s) q ≡ true → f part (q ++ r) ≡ true
        by [] r c h = absurd (false≢true (sym (paths_opened_nil s Covered) ∙ whole_covered (paths s) [] h))
        by (n ∷ q) r c h = longer n q r part c

    go : IsBelow (paths s) f
    go Covered p h = covered Covered p h
    go Touched p h =
        ⊎_elim (λ c. covered Touched p c)
        (λ n. subsets p (subst (λ (b : Bool). (b && not (paths s Covered p)) ≡ true) (sym h) (not_from_false (paths s Covered p) n)))
        (cases_Bool (paths s Covered p))

asked_exact : (x : ImportedExports) (d : NameDemand) → asked x ≡ asked_by d → IsBelow (imported x) (one d)
asked_exact Star d e = subst (λ (c : NameDemand). IsBelow all_but_default (one c)) (sym (star_is d e)) (λ part p t. t)
asked_exact StarWithDefault d e = subst (λ (c : NameDemand). IsBelow (imported StarWithDefault) (one c)) (sym (each_is d e)) (λ part p t. t)
asked_exact (Subset s) d e = go d (λ c. ap (λ (f : NameDemand → Bool). f c) e)
  where
    no_covered : (p : Path) (q : Path) → touched_path p Covered q ≡ true → {Z : Type 0} → Z
    no_covered p [] h = absurd (false≢true h)
    no_covered p (n ∷ q) h = absurd (false≢true h)

    in_subset : (f : NameSet) → ((q : Path) → set_demands f (subset_at q) ≡ set_demands (paths s) (subset_at q)) → (q : Path) →
        has_subset (paths s) q ≡ true → f Touched q ≡ true
    in_subset f is [] h = absurd (false≢true (sym (paths_opened_nil s Touched) ∙
        (and_parts (paths s Touched []) (not (paths s Covered [])) h).0))
    in_subset f is (n ∷ q) h = (and_parts (f Touched (n ∷ q)) (not (f Covered (n ∷ q))) (is (n ∷ q) ∙ h)).0

    go : (d : NameDemand) → ((c : NameDemand) → asked (Subset s) c ≡ asked_by d c) → IsBelow (paths s) (one d)
    go names_but_default is = absurd (false≢true (is names_but_default))
    go each_name is = absurd (false≢true (is each_name))
    go (subset_at p) is =
        set_exact s (touched_path p) (λ n q r part h. no_covered p (n ∷ q) h) (in_subset (touched_path p) (λ q. sym (is (subset_at q))))
        (λ q h. whole_covered (touched_path p) q (sym (is (whole_at q)) ∙ h))
    go (whole_at p) is =
        set_exact s (whole_path p) (λ n q r part h. (whole_set p n).longer q r part h)
        (in_subset (whole_path p) (λ q. sym (is (subset_at q)))) (λ q h. whole_covered (whole_path p) q (sym (is (whole_at q)) ∙ h))

-- what is answered, by what was there

abbrev AnswersTo : Option ImportedExports → ImportedExports → Option ImportedExports → Type 0
AnswersTo None x answer = answer ≡ Some x
AnswersTo (Some h) x answer = IsAnswer h x answer

answers : (o : Option ImportedExports) (old now : List (Parts × ImportedExports)) (url : Parts) (x : ImportedExports)
    (answer : Option ImportedExports) → HandlesAt o old url x answer now → AnswersTo o x answer
answers None old now url x answer h = h.0
answers (Some held) old now url x answer h = h.1.answer_is

-- what touches `default` demands it
pub default_of : (c : NameDemand) → one c Touched (default_name ∷ []) ≡ true → HasDefault c
default_of names_but_default h = absurd (false≢true h)
default_of each_name h = tt
default_of (subset_at []) h = absurd (false≢true h)
default_of (subset_at (n ∷ p)) h =
    (bytes_eq-Decides default_name n).1 (sym ((bytes_eq-Decides n default_name).0 (and_parts (bytes_eq n default_name) true h).0))
default_of (whole_at []) h = absurd (false≢true h)
default_of (whole_at (n ∷ p)) h =
    let a = first (bytes_eq n default_name) _ h in (bytes_eq-Decides default_name n).1 (sym ((bytes_eq-Decides n default_name).0 a))
  where
    first : (a b : Bool) → (a && b) ≡ true → a ≡ true
    first a b h = (and_parts a b h).0

module _ (d : NameDemand) where
  -- a set that is new lies below what is asked, or is `default` beside a star
  set_new : (o : Option ImportedExports) (x : ImportedExports) (s : NamedSubset) (answer : Option ImportedExports) → AnswersTo o x answer →
      answer ≡ Some (Subset s) → asked x ≡ asked_by d → IsBelow (paths s) (one (new_beside o d))
  set_new None x s answer a e is =
      subst (λ (y : ImportedExports). IsBelow (imported y) (one d)) (some_is x (Subset s) (sym a ∙ e)) (asked_exact x d is)
  set_new (Some StarWithDefault) x s answer a e is = none_some (Subset s) (sym a ∙ e)
  set_new (Some Star) x s answer a e is =
      ⊎_elim
      (λ t. λ part p h. sym (subst (λ (r : Option ImportedExports). IsDefaultAlone r) e (a.0 t) part p) ∙ h)
      (λ f. none_some (Subset s) (sym (a.1 f) ∙ e))
      (cases_Bool (imported x Touched (default_name ∷ [])))
  set_new (Some (Subset h)) Star s answer a e is =
      ⊎_elim (λ t. no_set StarWithDefault s (λ z q. false≢true (sym (ap (λ (y : ImportedExports). is_star y) q))) (sym (a.0 t) ∙ e))
      (λ f. no_set Star s (λ z q. false≢true (sym (ap (λ (y : ImportedExports). is_star y) q))) (sym (a.1 f) ∙ e))
      (cases_Bool (has_subset (paths h) (default_name ∷ [])))
    where
      no_set : {Z : Type 0} (x : ImportedExports) (s : NamedSubset) → ((z : NamedSubset) → x ≡ Subset z → ⊥) → Some x ≡ Some (Subset s) → Z
      no_set x s f q = absurd (f s (some_is x (Subset s) q))
  set_new (Some (Subset h)) StarWithDefault s answer a e is =
      absurd (false≢true (sym (ap (λ (y : ImportedExports). is_star y) (some_is StarWithDefault (Subset s) (sym a ∙ e)))))
  set_new (Some (Subset h)) (Subset t) s answer a e is =
      let rest : IsRest h t (Some (Subset s)) = subst (IsRest h t) e a in
      λ part p q. asked_exact (Subset t) d is part p ((rest.0.least (paths t) (own_set t)).1 (λ r u v. or_right (paths h r u) (paths t r u) v) part p q)

  -- and it is among what is asked then
  set_below : (o : Option ImportedExports) (x : ImportedExports) (s : NamedSubset) (answer : Option ImportedExports) (state : NameSet) →
      AnswersTo o x answer → answer ≡ Some (Subset s) → IsBelow (one d) state → IsBelow (paths s) state → IsBelow (one (new_beside o d)) state
  set_below None x s answer state a e above below = above
  set_below (Some StarWithDefault) x s answer state a e above below = above
  set_below (Some (Subset h)) x s answer state a e above below = above
  set_below (Some Star) x s answer state a e above below =
      ⊎_elim
      (λ t. λ part p h. below part p (subst (λ (r : Option ImportedExports). IsDefaultAlone r) e (a.0 t) part p ∙ h))
      (λ f. none_some (Subset s) (sym (a.1 f) ∙ e))
      (cases_Bool (imported x Touched (default_name ∷ [])))

  star_each : {Z : Type 0} → Some Star ≡ Some StarWithDefault → Z
  star_each e = absurd (false≢true (ap (λ (z : ImportedExports). imported z Touched (default_name ∷ [])) (some_is Star StarWithDefault e)))

  each_star : {Z : Type 0} → Some StarWithDefault ≡ Some Star → Z
  each_star e = star_each (sym e)

  -- whence what is new comes
  new_from : (o : Option ImportedExports) (x y : ImportedExports) (answer : Option ImportedExports) → AnswersTo o x answer →
      answer ≡ Some y → asked x ≡ asked_by d → (new_names o d y ≡ d) ⊎ IsWidenedFrom d o (new_names o d y)
  new_from None x Star answer a e is =
      inl (sym (star_is d (subst (λ (z : ImportedExports). asked z ≡ asked_by d) (some_is x Star (sym a ∙ e)) is)))
  new_from (Some Star) x Star answer a e is =
      ⊎_elim (λ t. absurd (subst (λ (r : Option ImportedExports). IsDefaultAlone r) e (a.0 t))) (λ f. none_some Star (sym (a.1 f) ∙ e))
      (cases_Bool (imported x Touched (default_name ∷ [])))
  new_from (Some StarWithDefault) x Star answer a e is = none_some Star (sym a ∙ e)
  new_from (Some (Subset h)) Star Star answer a e is = inl (sym (star_is d is))
  new_from (Some (Subset h)) StarWithDefault Star answer a e is = each_star (sym a ∙ e)
  new_from (Some (Subset h)) (Subset t) Star answer a e is = absurd (subst (IsRest h t) e a)
  new_from None x StarWithDefault answer a e is =
      inl (sym (each_is d (subst (λ (z : ImportedExports). asked z ≡ asked_by d) (some_is x StarWithDefault (sym a ∙ e)) is)))
  new_from (Some Star) x StarWithDefault answer a e is =
      ⊎_elim (λ t. absurd (subst (λ (r : Option ImportedExports). IsDefaultAlone r) e (a.0 t))) (λ f. none_some StarWithDefault (sym (a.1 f) ∙ e))
      (cases_Bool (imported x Touched (default_name ∷ [])))
  new_from (Some StarWithDefault) x StarWithDefault answer a e is = none_some StarWithDefault (sym a ∙ e)
  new_from (Some (Subset h)) StarWithDefault StarWithDefault answer a e is = inl (sym (each_is d is))
  new_from (Some (Subset h)) Star StarWithDefault answer a e is =
      ⊎_elim
      (λ t. inr (record {
        to = inr refl;
        by = inl (
          subst IsStarred (sym (star_is d is)) tt,
          Subset h,
          refl,
          (and_parts (paths h Touched (default_name ∷ [])) (not (paths h Covered (default_name ∷ []))) t).0,
        );
      }))
      (λ f. star_each (sym (a.1 f) ∙ e))
      (cases_Bool (has_subset (paths h) (default_name ∷ [])))
  new_from (Some (Subset h)) (Subset t) StarWithDefault answer a e is = absurd (subst (IsRest h t) e a)
  new_from None x (Subset s) answer a e is = inl refl
  new_from (Some StarWithDefault) x (Subset s) answer a e is = inl refl
  new_from (Some (Subset h)) x (Subset s) answer a e is = inl refl
  new_from (Some Star) x (Subset s) answer a e is =
      ⊎_elim
      (λ t. inr (record {
        to = inl refl;
        by = inr (default_of d (asked_exact x d is Touched (default_name ∷ []) t), Star, refl, refl);
      }))
      (λ f. none_some (Subset s) (sym (a.1 f) ∙ e))
      (cases_Bool (imported x Touched (default_name ∷ [])))

  one_new : (o : Option ImportedExports) (x y : ImportedExports) (answer : Option ImportedExports) → AnswersTo o x answer →
      answer ≡ Some y → asked x ≡ asked_by d → IsBelow (imported y) (one (new_names o d y))
  one_new o x Star answer a e is = λ part p h. h
  one_new o x StarWithDefault answer a e is = λ part p h. h
  one_new o x (Subset s) answer a e is = set_new o x s answer a e is

  new_in : (o : Option ImportedExports) (x y : ImportedExports) (answer : Option ImportedExports) (state : NameSet) → AnswersTo o x answer →
      answer ≡ Some y → IsBelow (one d) state → IsBelow (imported y) state → IsBelow (one (new_names o d y)) state
  new_in o x Star answer state a e above below = below
  new_in o x StarWithDefault answer state a e above below = below
  new_in o x (Subset s) answer state a e above below = set_below o x s answer state a e above below

  -- a star that comes to names without one is new
  star_new : (o : Option ImportedExports) (x : ImportedExports) (answer : Option ImportedExports) → AnswersTo o x answer →
      ((h : ImportedExports) → o ≡ Some h → is_star h ≡ false) → is_star x ≡ true →
      (y : ImportedExports) × (answer ≡ Some y) × IsStarred (new_names o d y)
  star_new None Star answer a never t = (Star, a, tt)
  star_new None StarWithDefault answer a never t = (StarWithDefault, a, tt)
  star_new None (Subset s) answer a never t = absurd (false≢true t)
  star_new (Some Star) x answer a never t = absurd (false≢true (sym (never Star refl)))
  star_new (Some StarWithDefault) x answer a never t = absurd (false≢true (sym (never StarWithDefault refl)))
  star_new (Some (Subset h)) Star answer a never t =
      ⊎_elim (λ u. (StarWithDefault, a.0 u, tt)) (λ f. (Star, a.1 f, tt)) (cases_Bool (has_subset (paths h) (default_name ∷ [])))
  star_new (Some (Subset h)) StarWithDefault answer a never t = (StarWithDefault, a, tt)
  star_new (Some (Subset h)) (Subset s) answer a never t = absurd (false≢true t)

-- the star that a form asks
star_asked : (x : ImportedExports) → is_star x ≡ true → (c : NameDemand) × IsStarred c × (asked x c ≡ true)
star_asked Star t = (names_but_default, tt, refl)
star_asked StarWithDefault t = (each_name, tt, refl)
star_asked (Subset s) t = absurd (false≢true t)

asked_star : (x : ImportedExports) (c : NameDemand) → IsStarred c → asked x c ≡ true → is_star x ≡ true
asked_star Star c i h = refl
asked_star StarWithDefault c i h = refl
asked_star (Subset s) names_but_default i h = absurd (false≢true h)
asked_star (Subset s) each_name i h = absurd (false≢true h)
asked_star (Subset s) (subset_at p) i h = absurd i
asked_star (Subset s) (whole_at p) i h = absurd i

-- what was asked before stays as it is
were_gains : (url : Parts) (d : NameDemand) (new : Option NameDemand) (old now : List (Parts × ImportedExports)) →
    WereAsked url d new old now → Gains (serialize url) d new old now
were_gains url d new old now w = go (lookup (is_module url) old) refl w.before
  where
    go : (o : Option ImportedExports) → lookup (is_module url) old ≡ o → was_told o d ≡ true → Gains (serialize url) d new old now
    go None e t = absurd (false≢true t)
    go (Some x) e t = record {
      state = x;
      now_is = ap (lookup (is_module url)) w.same ∙ e;
      others = λ q f. ap (lookup (λ k. bytes_eq q (serialize k))) w.same;
      above_new = path_in x d t;
      above_old = λ h f. subst (λ (z : ImportedExports). IsBelow (imported z) (imported x)) (some_is x h (sym e ∙ f)) (λ part p g. g);
      only = λ part p g. inl (x, e, g);
      new_below = λ c f. none_some c (sym w.none ∙ f);
      from = λ c f. none_some c (sym w.none ∙ f);
      starry = λ g. inl (x, e, g);
      none_old = λ f. (x, e);
      less = λ ps i j k c f. none_some c (sym w.none ∙ f);
      le = λ ps. subst (λ (r : Option ImportedExports). rank ps (Some x) ≤ rank ps r) (sym e) (omega arith);
    }

module _ (url : Parts) (d : NameDemand) (new : Option NameDemand) (old now : List (Parts × ImportedExports)) (proper : asked_by d d ≡ true)
    (w : AreAdded url d new old now) where
  abbrev x : ImportedExports
  x = w.exports

  abbrev before : Option ImportedExports
  before = lookup (is_module url) old

  k : IsTaken (serialize url) x w.answer (handled_at old) (handled_at now)
  k = taken old now url x w.answer w.handles

  a : AnswersTo before x w.answer
  a = answers before old now url x w.answer w.handles

  above : IsBelow (one d) (imported k.state)
  above part p h = k.above_new part p (one_in x d (ap (λ (f : NameDemand → Bool). f d) w.stand ∙ proper) part p h)

  -- what is new, by what was answered
  by_answer : (e : NameDemand) → new ≡ Some e → (y : ImportedExports) × (w.answer ≡ Some y) × (new_names before d y ≡ e)
  by_answer e h = mapped_some (new_names before d) w.answer e (sym w.is ∙ h)

  to_new : (y : ImportedExports) → w.answer ≡ Some y → new ≡ Some (new_names before d y)
  to_new y h = w.is ∙ ap (λ (o : Option ImportedExports). option_map (new_names before d) o) h

  is_starry : is_star k.state ≡ true → ((h : ImportedExports) × (handled_at old (serialize url) ≡ Some h) × (is_star h ≡ true)) ⊎
      ((e : NameDemand) × (new ≡ Some e) × IsStarred e)
  is_starry t = go before refl a
    where
      star_of_x : ((h : ImportedExports) → before ≡ Some h → is_star h ≡ false) → is_star x ≡ true
      star_of_x never =
          let c = star_asked k.state t in
          ⊎_elim (λ l. asked_star x c.0 c.1 l)
          (λ r. ⊎_elim (λ o. absurd (false≢true (sym (never r.0 r.1) ∙ asked_star r.0 c.0 c.1 o)))
          (λ wide. ⊎_elim (λ o. absurd (false≢true (sym (never r.0 r.1) ∙ o))) (λ n. n) (or_cases (is_star r.0) (is_star x) wide.star)) r.2)
          (k.of_either c.0 c.2)

      go : (o : Option ImportedExports) → before ≡ o → AnswersTo o x w.answer → ((h : ImportedExports) × (before ≡ Some h) × (is_star h ≡ true)) ⊎
          ((e : NameDemand) × (new ≡ Some e) × IsStarred e)
      go None e b =
          let never : (h : ImportedExports) → None ≡ Some h → is_star h ≡ false = λ h f. none_some h f in
          let y = star_new d None x w.answer b never (star_of_x (λ h f. none_some h (sym e ∙ f))) in
          inr (new_names None d y.0, subst (λ (o : Option ImportedExports). new ≡ Some (new_names o d y.0)) e (to_new y.0 y.1), y.2)
      go (Some h) e b =
          ⊎_elim (λ s. inl (h, e, s))
          (λ f.
          let never : (g : ImportedExports) → Some h ≡ Some g → is_star g ≡ false =
          λ g q. subst (λ (z : ImportedExports). is_star z ≡ false) (some_is h g q) f in
          let y = star_new d (Some h) x w.answer b never (star_of_x (λ g q. never g (sym e ∙ q))) in
          inr (new_names (Some h) d y.0, subst (λ (o : Option ImportedExports). new ≡ Some (new_names o d y.0)) e (to_new y.0 y.1), y.2))
          (cases_Bool (is_star h))

  is_less : (ps : List Path) → Contains ps (default_name ∷ []) → Contains ps [] → ((c : NameDemand) → asked_by d c ≡ true → IsWithin ps c) →
      (y : ImportedExports) → w.answer ≡ Some y → (o : Option ImportedExports) → before ≡ o → rank ps (Some k.state) < rank ps o
  is_less ps default empty within y e None b = rank_some ps k.state
  is_less ps default empty within y e (Some h) b =
      rank_falls ps h y k.state (k.above_old h b) (k.answer_below y e) (k.progress y e h b)
      (λ c g.
      ⊎_elim (λ n. within c (sym (ap (λ (f : NameDemand → Bool). f c) w.stand) ∙ n))
      (λ r. ⊎_elim (λ t. default_within ps default empty c t) (λ t. subst (IsWithin ps) (sym t) tt) r.2.widens_to)
      (k.of_new y e c g))

  is_le : (ps : List Path) (o : Option ImportedExports) → before ≡ o → rank ps (Some k.state) ≤ rank ps o
  is_le ps None b = omega (arith, rank_some ps k.state)
  is_le ps (Some h) b = rank_le ps h k.state (k.above_old h b)

  added_gains : Gains (serialize url) d new old now
  added_gains = record {
    state = k.state;
    now_is = k.now;
    others = k.others;
    above_new = above;
    above_old = k.above_old;
    only = λ part p g.
        ⊎_elim (λ l. inl l)
        (λ r. inr (new_names before d r.0, to_new r.0 r.1, one_new d before x r.0 w.answer a r.1 w.stand part p r.2)) (k.covered part p g);
    new_below = λ e h.
        let y = by_answer e h in
        subst (λ (c : NameDemand). IsBelow (one c) (imported k.state)) y.2
        (new_in d before x y.0 w.answer (imported k.state) a y.1 above (k.answer_below y.0 y.1));
    from = λ e h.
        let y = by_answer e h in
        subst (λ (c : NameDemand). (c ≡ d) ⊎ IsWidenedFrom d before c) y.2 (new_from d before x y.0 w.answer a y.1 w.stand);
    starry = is_starry;
    none_old = λ h. k.none_old (no_answer w.answer (sym w.is ∙ h));
    less = λ ps i j within e h. let y = by_answer e h in is_less ps i j within y.0 y.1 before refl;
    le = λ ps. is_le ps before refl;
  }
    where
      no_answer : (o : Option ImportedExports) → option_map (new_names before d) o ≡ None → o ≡ None
      no_answer None h = refl
      no_answer (Some y) h = none_some (new_names before d y) (sym h)

pub gains : (url : Parts) (d : NameDemand) (new : Option NameDemand) (old now : List (Parts × ImportedExports)) → asked_by d d ≡ true →
    AddsNames url d new old now → Gains (serialize url) d new old now
gains url d new old now proper h = ⊎_elim (λ w. were_gains url d new old now w) (λ w. added_gains url d new old now proper w) h
