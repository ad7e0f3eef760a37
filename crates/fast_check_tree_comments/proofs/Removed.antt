-- What `remove` leaves of the places: all but those at the position, since it says that none is found there any more.
use Rattle.std.proofs.Common.{◌≡◌, Bool, true, false, not, cond, Some, None, List, [], ◌∷◌, refl, ap, ◌∙◌, sym, subst}
use Rattle.std.specs.List.{filter}
use Rattle.std.specs.BTreeMap.{is_at}
use Rattle.std.specs.Map.{lookup, remove_entry}
use Rattle.fast_check_tree_syntax.specs.declared.source.SourcePos.{SourcePos}
use Rattle.fast_check_tree_comments.specs.Places.{Places, by_number, without_comments}

module _ {K X : Type 0} (test : K → Bool) where
  abbrev others : List (K × X) → List (K × X)
  others es = filter (λ e. not (test e.0)) es

  all_are_others : (es : List (K × X)) → lookup test es ≡ None → es ≡ others es
  all_are_others [] h = refl
  all_are_others (e ∷ es) h = go (test e.0) h (all_are_others es)
    where
      go : (b : Bool) → cond b (Some e.1) (lookup test es) ≡ None → (lookup test es ≡ None → es ≡ others es) → e ∷
          es ≡ cond (not b) (e ∷ others es) (others es)
      go true h more = cc
      go false h more = ap (λ xs. e ∷ xs) (more h)

  removed_are_others : (es : List (K × X)) → lookup test (remove_entry test es) ≡ None → remove_entry test es ≡ others es
  removed_are_others [] h = refl
  removed_are_others (e ∷ es) h = go (test e.0) refl h (removed_are_others es)
    where
      go : (b : Bool) → test e.0 ≡ b → lookup test (cond b es (e ∷ remove_entry test es)) ≡ None →
          (lookup test (remove_entry test es) ≡ None → remove_entry test es ≡ others es) →
          cond b es (e ∷ remove_entry test es) ≡ cond (not b) (e ∷ others es) (others es)
      go true q h more = all_are_others es h
      go false q h more = ap (λ xs. e ∷ xs) (more (sym (ap (λ c. cond c (Some e.1) (lookup test (remove_entry test es))) q) ∙ h))

pub removed_are_gone : (position : SourcePos) (old new : Places) → new ≡ remove_entry (is_at (by_number position)) old →
    lookup (is_at (by_number position)) new ≡ None → new ≡ without_comments position old
removed_are_gone position old new e h =
    e ∙ removed_are_others (is_at (by_number position)) old (subst (λ es. lookup (is_at (by_number position)) es ≡ None) e h)
