-- What calls add for lists of what is seen, one after the other.
use Rattle.std.specs.Prelude.{◌≡◌, ℕ, ◌+◌, ◌<◌, ◌≤◌, Option, List, [], ◌∷◌, ◌++◌, flat_map, length, take}
use lib.ListN.{get_or}
use Rattle.std.proofs.Common.{ap, ◌∙◌, sym, subst, append-nil}
use Rattle.std.proofs.lemmas.List.{take_more, take_all}
use Rattle.std.proofs.lemmas.List.Concat.{flat_map-append}
use Rattle.fast_check_tree_syntax.specs.declared.tree.Tree.{Tree}
use Rattle.fast_check_meaning_signatures.specs.declared.fault.Fault.{Fault}
use Rattle.fast_check_meaning_signatures.specs.Seen.{Seen}
use Rattle.fast_check_meaning_signatures.specs.Answers.{Adds, with_tree, answer_to, answer_of}
use Rattle.fast_check_meaning_signatures.proofs.Adding.{adds_nothing, adds_same, adds_joined, answer_append}

-- one that is seen alone
pub alone : (s : Seen) {o : Option Tree} {old new : List Fault} → Adds (answer_to s) o old new →
    Adds (answer_of (s ∷ [])) (with_tree o []) old new
alone s {new = new} h = adds_joined with_tree h (adds_nothing [] new)

-- what is seen of one more of a list
pub one_more : (f : Tree → List Seen) (ts : List Tree) (i : ℕ) (t : Tree) → i < length ts → t ≡ get_or ts i t →
    {xs ys zs : List Tree} {old mid new : List Fault} → Adds (answer_of (flat_map f (take i ts))) xs old mid →
    Adds (answer_of (f t)) ys mid new →
    zs ≡ xs ++ ys → Adds (answer_of (flat_map f (take (i + 1) ts))) zs old new
one_more f ts i t h e {old = old} {new = new} g k p =
    let more : flat_map f (take (i + 1) ts) ≡ flat_map f (take i ts) ++ f t =
    ap (flat_map f) (take_more ts i t h ∙ ap (λ u. take i ts ++ u ∷ []) (sym e))
    ∙ (flat_map-append f (take i ts) (t ∷ []) ∙ ap (λ ss. flat_map f (take i ts) ++ ss) (append-nil (f t))) in
    subst (λ x. Adds (answer_of (flat_map f (take (i + 1) ts))) x old new) (sym p)
    (adds_same (ap answer_of more ∙ answer_append (flat_map f (take i ts)) (f t)) (adds_joined ◌++◌ g k))

-- what is seen of a whole list
pub whole : (f : Tree → List Seen) {ts us : List Tree} (i : ℕ) → length ts ≤ i → ts ≡ us → {xs : List Tree} {old new : List Fault} →
    Adds (answer_of (flat_map f (take i ts))) xs old new → Adds (answer_of (flat_map f us)) xs old new
whole f {ts = ts} i h e g = adds_same (ap (λ us. answer_of (flat_map f us)) (sym (take_all i ts h ∙ e))) g
