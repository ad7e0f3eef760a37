-- What is handled after names of a module were added.
use Rattle.std.proofs.Common.{◌≡◌, ◌∙◌, sym, ap, refl, subst, true, false, List, [], ◌∷◌, ◌++◌, Option, Some, None, ◌⊎◌, inl, inr, ⊎_elim}
use Rattle.std.specs.Map.{lookup, set_value}
use Rattle.std.specs.Str.{bytes_eq}
use Rattle.std.proofs.lemmas.Bool.{cases_Bool, false≢true, or_right, or_cases}
use Rattle.std.proofs.lemmas.Option.{none-some, same_Some}
use Rattle.std.proofs.lemmas.Slice.Eq.{bytes_eq-Decides}
use Rattle.url.specs.Parts.{Parts, serialize}
use Rattle.fast_check_finder_lattice.specs.declared.lattice.imported_exports.ImportedExports.{ImportedExports}
use Rattle.fast_check_finder_lattice.specs.declared.lattice.imported_exports.ImportedExports.TheVariants.{Star, StarWithDefault, Subset}
use Rattle.fast_check_finder_lattice.specs.Names.{Part, Path, IsSame, IsBelow, HasMore}
use Rattle.fast_check_finder_lattice.specs.Imports.{imported, answered, NameDemand, IsCopy, IsAdded}
use Rattle.fast_check_finder_lattice.specs.Traces.{is_module, Handles, HandlesAt}
use Rattle.fast_check_finder_demands.specs.asked.Demands.{Text, asked}
use Rattle.fast_check_finder_demands.proofs.asked.Asking.{IsWide, asked_new, asked_either, copy_asked}
use Rattle.fast_check_finder_demands.proofs.asked.Maps.{look_same, look_other, look_last, look_before}

abbrev pub text_of : List (Parts × ImportedExports) → Text → Option ImportedExports
text_of es t = lookup (λ k. bytes_eq t (serialize k)) es

-- what becomes of the names under t, after x was added and answer was new
pub record IsTaken (t : Text) (x : ImportedExports) (answer : Option ImportedExports)
    (old new : Text → Option ImportedExports) : Type 0 where
  pub state : ImportedExports
  pub now : new t ≡ Some state
  pub others : (q : Text) → bytes_eq t q ≡ false → new q ≡ old q
  pub above_new : IsBelow (imported x) (imported state)
  pub above_old : (h : ImportedExports) → old t ≡ Some h → IsBelow (imported h) (imported state)
  pub covered : (part : Part) (p : Path) → imported state part p ≡ true →
      ((h : ImportedExports) × (old t ≡ Some h) × (imported h part p ≡ true)) ⊎
      ((y : ImportedExports) × (answer ≡ Some y) × (imported y part p ≡ true))
  pub answer_below : (y : ImportedExports) → answer ≡ Some y → IsBelow (imported y) (imported state)
  pub of_new : (y : ImportedExports) → answer ≡ Some y → (d : NameDemand) → asked y d ≡ true → (asked x d ≡ true) ⊎
      ((h : ImportedExports) × (old t ≡ Some h) × IsWide h x d)
  pub of_either : (d : NameDemand) → asked state d ≡ true → (asked x d ≡ true) ⊎ ((h : ImportedExports) × (old t ≡ Some h) ×
      ((asked h d ≡ true) ⊎ IsWide h x d))
  pub progress : (y : ImportedExports) → answer ≡ Some y → (h : ImportedExports) → old t ≡ Some h → HasMore (imported y) (imported h)
  pub none_old : answer ≡ None → (h : ImportedExports) × (old t ≡ Some h)
  pub all_none : old t ≡ Some StarWithDefault → answer ≡ None

copy_same : (a b : ImportedExports) → IsCopy a b → IsSame (imported b) (imported a)
copy_same Star Star c = λ part p. refl
copy_same Star StarWithDefault c = absurd c
copy_same Star (Subset s) c = absurd c
copy_same StarWithDefault Star c = absurd c
copy_same StarWithDefault StarWithDefault c = λ part p. refl
copy_same StarWithDefault (Subset s) c = absurd c
copy_same (Subset s) Star c = absurd c
copy_same (Subset s) StarWithDefault c = absurd c
copy_same (Subset s) (Subset t) c = c

pub bytes_same : (t : Text) → bytes_eq t t ≡ true
bytes_same t = (bytes_eq-Decides t t).1 refl

-- a specifier that is told as url is not told as another
apart : (url : Parts) (q : Text) → bytes_eq (serialize url) q ≡ false → (k : Parts) → is_module url k ≡ true →
    bytes_eq q (serialize k) ≡ false
apart url q f k t =
    ⊎_elim
    (λ e. absurd (false≢true (sym f ∙ (bytes_eq-Decides (serialize url) q).1 ((bytes_eq-Decides (serialize url) (serialize k)).0 t ∙ sym
    ((bytes_eq-Decides q (serialize k)).0 e)))))
    (λ n. n)
    (cases_Bool (bytes_eq q (serialize k)))

apart_self : (url : Parts) (q : Text) → bytes_eq (serialize url) q ≡ false → bytes_eq q (serialize url) ≡ false
apart_self url q f = apart url q f url (bytes_same (serialize url))

no_new : (x y : ImportedExports) (answer : Option ImportedExports) → answer ≡ Some x → answer ≡ Some y → x ≡ y
no_new x y answer a b = same_Some x y (sym a ∙ b)

module _ (old new : List (Parts × ImportedExports)) (url : Parts) (x : ImportedExports) (answer : Option ImportedExports) where
  taken_new : lookup (is_module url) old ≡ None → answer ≡ Some x → (copy : ImportedExports) → IsCopy x copy → new ≡ old ++ (url, copy) ∷
      [] → IsTaken
      (serialize url) x answer (text_of old) (text_of new)
  taken_new none a copy same is = record {
    state = copy;
    now = ap (lookup (is_module url)) is ∙ look_last (is_module url) old url copy none (bytes_same (serialize url));
    others = λ q f. ap (lookup (λ k. bytes_eq q (serialize k))) is ∙
        look_before (λ k. bytes_eq q (serialize k)) old url copy (apart_self url q f);
    above_new = λ part p t. copy_same x copy same part p ∙ t;
    above_old = λ h e. absurd (none-some h (sym none ∙ e));
    covered = λ part p t. inr (x, a, sym (copy_same x copy same part p) ∙ t);
    answer_below = λ y e part p t. copy_same x copy same part p ∙
        subst (λ (z : ImportedExports). imported z part p ≡ true) (no_new y x answer e a) t;
    of_new = λ y e d t. inl (subst (λ (z : ImportedExports). asked z d ≡ true) (no_new y x answer e a) t);
    of_either = λ d t. inl (sym (copy_asked x copy same d) ∙ t);
    progress = λ y e h f. absurd (none-some h (sym none ∙ f));
    none_old = λ e. absurd (none-some x (sym e ∙ a));
    all_none = λ e. absurd (none-some StarWithDefault (sym none ∙ e));
  }

  taken_held : (held state : ImportedExports) → lookup (is_module url) old ≡ Some held → IsAdded held x answer state → new ≡ set_value
      (is_module url) old state → IsTaken (serialize url) x answer (text_of old) (text_of new)
  taken_held held state found added is = record {
    state = state;
    now = ap (lookup (is_module url)) is ∙ look_same (is_module url) old held state found;
    others = λ q f. ap (lookup (λ k. bytes_eq q (serialize k))) is ∙ look_other (is_module url) (λ k. bytes_eq q (serialize k)) old state
        (λ k t. apart url q f k t);
    above_new = added.form.above_new;
    above_old = λ h e. subst (λ (z : ImportedExports). IsBelow (imported z) (imported state)) (held_is h e) added.form.above_old;
    covered = λ part p t.
        ⊎_elim (λ l. inl (held, found, l)) (λ r. inr (by_answer answer part p r)) (or_cases (imported held part p) (answered answer part p)
        (sym (added.covered part p) ∙ t));
    answer_below = λ y e part p t. added.covered part p ∙ or_right (imported held part p) (answered answer part p)
        (subst (λ (o : Option ImportedExports). answered o part p ≡ true) (sym e) t);
    of_new = λ y e d t. ⊎_elim (λ l. inl l) (λ r. inr (held, found, r)) (asked_new held x answer state added y e d t);
    of_either = λ d t. ⊎_elim (λ l. ⊎_elim (λ o. inr (held, found, inl o)) (λ n. inl n) (or_cases (asked held d) (asked x d) l))
        (λ r. inr (held, found, inr r)) (asked_either held x answer state added d t);
    progress = λ y e h f. subst (λ (z : ImportedExports). HasMore (imported y) (imported z)) (held_is h f) (added.progress y e);
    none_old = λ e. (held, found);
    all_none = λ e. all_none held (held_is StarWithDefault e) added;
  }
    where
      held_is : (h : ImportedExports) → lookup (is_module url) old ≡ Some h → held ≡ h
      held_is h e = same_Some held h (sym found ∙ e)

      by_answer : (o : Option ImportedExports) (part : Part) (p : Path) → answered o part p ≡ true → (y : ImportedExports) × (o ≡ Some y) ×
          (imported y part p ≡ true)
      by_answer None part p t = absurd (false≢true t)
      by_answer (Some y) part p t = (y, refl, t)

      all_none : (h : ImportedExports) → h ≡ StarWithDefault → IsAdded h x answer state → answer ≡ None
      all_none h e a = (subst (λ (z : ImportedExports). IsAdded z x answer state) e a).answer_is

  pub taken : Handles old url x answer new → IsTaken (serialize url) x answer (text_of old) (text_of new)
  taken h = go (lookup (is_module url) old) refl h
    where
      go : (o : Option ImportedExports) → lookup (is_module url) old ≡ o → HandlesAt o old url x answer new →
          IsTaken (serialize url) x answer (text_of old)
          (text_of new)
      go None e h = taken_new e h.0 h.1 h.2 h.3
      go (Some held) e h = taken_held held h.0 e h.1 h.2
