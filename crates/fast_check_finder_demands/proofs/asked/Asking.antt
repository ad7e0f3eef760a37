-- What is asked of a module, when names are added.
use Rattle.std.proofs.Common.{◌≡◌, ◌∙◌, sym, ap, refl, subst, true, [], ◌∷◌, Option, Some, ◌⊎◌, inl, inr, ⊎_elim, ◌||◌}
use Rattle.std.proofs.lemmas.Bool.{cases_Bool, false≢true, or_cases, or_left, or_right}
use Rattle.std.proofs.lemmas.Option.{none-some, same_Some}
use Rattle.fast_check_finder_lattice.specs.declared.lattice.named_subset.NamedSubset.{NamedSubset}
use Rattle.fast_check_finder_lattice.specs.declared.lattice.imported_exports.ImportedExports.{ImportedExports}
use Rattle.fast_check_finder_lattice.specs.declared.lattice.imported_exports.ImportedExports.TheVariants.{Star, StarWithDefault, Subset}
use Rattle.fast_check_finder_lattice.specs.Names.{Touched, paths, has_subset}
use Rattle.fast_check_finder_lattice.specs.Imports.{default_name, imported, NameDemand, names_but_default, each_name, subset_at, whole_at, demands}
use Rattle.fast_check_finder_lattice.specs.Imports.{is_star, IsAdded, IsWidened, IsCopy}
use Rattle.fast_check_finder_lattice.proofs.Forms.{not_all, star_below_all}
use Rattle.fast_check_finder_lattice.proofs.Sets.{same_subset, same_whole}
use Rattle.fast_check_finder_demands.specs.asked.Demands.{asked, asked_by}

-- a demand that stands for several, or the empty path beside `default`
pub record IsWide (old new : ImportedExports) (demand : NameDemand) : Type 0 where
  pub widens_to : (asked_by (whole_at (default_name ∷ [])) demand ≡ true) ⊎ (demand ≡ each_name)
  pub star : is_star old || is_star new ≡ true
  pub default : imported old Touched (default_name ∷ []) || imported new Touched (default_name ∷ []) ≡ true

whole_default : asked_by (whole_at (default_name ∷ [])) (whole_at (default_name ∷ [])) ≡ true
whole_default = refl

-- but for the empty path, what is asked is what is demanded
abbrev IsPlain : NameDemand → Type 0
IsPlain (subset_at []) = ⊥
IsPlain _ = Unit {0}

plain_asked : (x : ImportedExports) (d : NameDemand) → IsPlain d → asked x d ≡ demands x d
plain_asked Star names_but_default h = refl
plain_asked Star each_name h = refl
plain_asked Star (subset_at []) h = absurd h
plain_asked Star (subset_at (n ∷ p)) h = refl
plain_asked Star (whole_at p) h = refl
plain_asked StarWithDefault names_but_default h = refl
plain_asked StarWithDefault each_name h = refl
plain_asked StarWithDefault (subset_at []) h = absurd h
plain_asked StarWithDefault (subset_at (n ∷ p)) h = refl
plain_asked StarWithDefault (whole_at p) h = refl
plain_asked (Subset s) names_but_default h = refl
plain_asked (Subset s) each_name h = refl
plain_asked (Subset s) (subset_at []) h = absurd h
plain_asked (Subset s) (subset_at (n ∷ p)) h = refl
plain_asked (Subset s) (whole_at p) h = refl

widened_wide : (old new : ImportedExports) (d : NameDemand) → IsWidened old new d → IsWide old new d
widened_wide old new d w = record {
  widens_to = ⊎_elim (λ e. inl (subst (λ (c : NameDemand). asked_by (whole_at (default_name ∷ [])) c ≡ true) (sym e) whole_default))
      (λ e. inr e) w.widens_to;
  star = w.star;
  default = w.default;
}

not_star : (s : NamedSubset) → Star ≡ Subset s → ⊥
not_star s e = false≢true (sym (ap (λ (x : ImportedExports). is_star x) e))

not_each : (s : NamedSubset) → StarWithDefault ≡ Subset s → ⊥
not_each s e = false≢true (sym (ap (λ (x : ImportedExports). is_star x) e))

-- where the empty path is answered, it was handed in or `default` is answered alone
empty_new : (old new : ImportedExports) (answer : Option ImportedExports) (state : ImportedExports) (s : NamedSubset) →
    IsAdded old new answer state → answer ≡ Some (Subset s) → (asked new (subset_at []) ≡ true) ⊎ IsWide old new (subset_at [])
empty_new old (Subset t) answer state s a e = inl refl
empty_new StarWithDefault Star answer state s a e = absurd (none-some (Subset s) (sym a.answer_is ∙ e))
empty_new StarWithDefault StarWithDefault answer state s a e = absurd (none-some (Subset s) (sym a.answer_is ∙ e))
empty_new Star Star answer state s a e = absurd (none-some (Subset s) (sym (a.answer_is.1 refl) ∙ e))
empty_new Star StarWithDefault answer state s a e = inr (record { widens_to = inl refl; star = refl; default = refl })
empty_new (Subset o) StarWithDefault answer state s a e = absurd (not_each s (same_Some StarWithDefault (Subset s) (sym a.answer_is ∙ e)))
empty_new (Subset o) Star answer state s a e =
    ⊎_elim (λ t. absurd (not_each s (same_Some StarWithDefault (Subset s) (sym (a.answer_is.0 t) ∙ e))))
    (λ f. absurd (not_star s (same_Some Star (Subset s) (sym (a.answer_is.1 f) ∙ e))))
    (cases_Bool (has_subset (paths o) (default_name ∷ [])))

module _ (old new : ImportedExports) (answer : Option ImportedExports) (state : ImportedExports) (a : IsAdded old new answer state) where
  plain_new : (y : ImportedExports) → answer ≡ Some y → (d : NameDemand) → IsPlain d → asked y d ≡ true → (asked new d ≡ true) ⊎
      IsWide old new d
  plain_new y e d p h =
      ⊎_elim (λ t. inl (plain_asked new d p ∙ t)) (λ w. inr (widened_wide old new d w)) (a.of_new y e d (sym (plain_asked y d p) ∙ h))

  pub asked_new : (y : ImportedExports) → answer ≡ Some y → (d : NameDemand) → asked y d ≡ true → (asked new d ≡ true) ⊎ IsWide old new d
  asked_new y e names_but_default h = plain_new y e names_but_default tt h
  asked_new y e each_name h = plain_new y e each_name tt h
  asked_new Star e (subset_at []) h = absurd (false≢true h)
  asked_new StarWithDefault e (subset_at []) h = absurd (false≢true h)
  asked_new (Subset s) e (subset_at []) h = empty_new old new answer state s a e
  asked_new y e (subset_at (n ∷ q)) h = plain_new y e (subset_at (n ∷ q)) tt h
  asked_new y e (whole_at q) h = plain_new y e (whole_at q) tt h

  plain_either : (d : NameDemand) → IsPlain d → asked state d ≡ true → (asked old d || asked new d ≡ true) ⊎ IsWide old new d
  plain_either d p h =
      ⊎_elim
      (λ t. inl (⊎_elim (λ o. or_left (asked old d) (asked new d) (plain_asked old d p ∙ o))
      (λ n. or_right (asked old d) (asked new d) (plain_asked new d p ∙ n))
      (or_cases (demands old d) (demands new d) t)))
      (λ w. inr (widened_wide old new d w))
      (a.of_either d (sym (plain_asked state d p) ∙ h))

-- a set that has what another form has is asked for beside a set
set_old : (old : ImportedExports) (s : NamedSubset) (new : ImportedExports) (answer : Option ImportedExports) →
    IsAdded old new answer (Subset s) → asked old
    (subset_at []) ≡ true
set_old Star s new answer a = absurd (not_all s a.form.above_old)
set_old StarWithDefault s new answer a = absurd (not_all s (λ part p t. a.form.above_old part p (star_below_all part p t)))
set_old (Subset o) s new answer a = refl

pub asked_either : (old new : ImportedExports) (answer : Option ImportedExports) (state : ImportedExports) → IsAdded old new answer state →
    (d : NameDemand) →
    asked state d ≡ true → (asked old d || asked new d ≡ true) ⊎ IsWide old new d
asked_either old new answer state a names_but_default h = plain_either old new answer state a names_but_default tt h
asked_either old new answer state a each_name h = plain_either old new answer state a each_name tt h
asked_either old new answer Star a (subset_at []) h = absurd (false≢true h)
asked_either old new answer StarWithDefault a (subset_at []) h = absurd (false≢true h)
asked_either old new answer (Subset s) a (subset_at []) h =
    inl (or_left (asked old (subset_at [])) (asked new (subset_at [])) (set_old old s new answer a))
asked_either old new answer state a (subset_at (n ∷ q)) h = plain_either old new answer state a (subset_at (n ∷ q)) tt h
asked_either old new answer state a (whole_at q) h = plain_either old new answer state a (whole_at q) tt h

pub copy_asked : (a b : ImportedExports) → IsCopy a b → (d : NameDemand) → asked b d ≡ asked a d
copy_asked Star Star c d = refl
copy_asked Star StarWithDefault c d = absurd c
copy_asked Star (Subset s) c d = absurd c
copy_asked StarWithDefault Star c d = absurd c
copy_asked StarWithDefault StarWithDefault c d = refl
copy_asked StarWithDefault (Subset s) c d = absurd c
copy_asked (Subset s) Star c d = absurd c
copy_asked (Subset s) StarWithDefault c d = absurd c
copy_asked (Subset s) (Subset t) c names_but_default = refl
copy_asked (Subset s) (Subset t) c each_name = refl
copy_asked (Subset s) (Subset t) c (subset_at []) = refl
copy_asked (Subset s) (Subset t) c (subset_at (n ∷ p)) = same_subset (paths t) (paths s) c (n ∷ p)
copy_asked (Subset s) (Subset t) c (whole_at p) = same_whole (paths t) (paths s) c p
