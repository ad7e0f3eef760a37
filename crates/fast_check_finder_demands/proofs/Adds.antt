-- What a list adds to another as a set: in parts, or not at all where it is there.
use Rattle.std.proofs.Common.{◌≡◌, ◌∙◌, sym, ap, subst, List, [], ◌++◌, append-nil}
use Rattle.std.specs.List.{Contains}
use Rattle.std.proofs.lemmas.List.Elements.{Contains-append_right}
use Rattle.fast_check_finder_demands.specs.Yields.{Adds}
use Rattle.fast_check_finder_demands.proofs.Elements.{no_element}

module _ {X : Type 0} where
  -- all of these come behind
  pub adds_all : (these old new : List X) → new ≡ old ++ these → Adds these old new
  adds_all these old new e = record {
    more = these;
    is = e;
    parts = λ x c. c;
    whole = λ x c. subst (λ (xs : List X). Contains xs x) (sym e) (Contains-append_right old these x c);
  }

  -- none at all
  pub nothing_more : (xs ys : List X) → ys ≡ [] → xs ≡ xs ++ ys
  nothing_more xs ys e = sym (append-nil xs) ∙ ap (λ zs. xs ++ zs) (sym e)

  -- each of these was there
  pub adds_none : (these old : List X) → ((x : X) → Contains these x → Contains old x) → Adds these old old
  adds_none these old there = record {
    more = [];
    is = sym (append-nil old);
    parts = λ x c. absurd (no_element x c);
    whole = there;
  }

  -- one list for another that is equal
  pub adds_as : (these those old new : List X) → these ≡ those → Adds these old new → Adds those old new
  adds_as these those old new e a = subst (λ (xs : List X). Adds xs old new) e a
