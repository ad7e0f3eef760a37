-- Lists of what is seen, each of which stays with a property.
use Rattle.std.specs.Prelude.{Bool, true, false, IfSome, Option, Some, None, List, [], ◌∷◌, ◌++◌, flat_map, if◌then◌else◌}
use Rattle.fast_check_tree_syntax.specs.declared.tree.Tree.{Tree}
use Rattle.fast_check_tree_syntax.specs.Shape.{OfAll}
use Rattle.fast_check_meaning_signatures.specs.Seen.{Seen}
use Rattle.fast_check_meaning_signatures.specs.Answers.{answer_to, answer_of}
use Rattle.fast_check_meaning_skeleton.proofs.Staying.{Holds, Stays, items_hold}

-- each stays with a property, if nothing of it is at fault
abbrev pub AllStay : (Tree → Type 0) → List Seen → Type 0
AllStay P [] = Unit {0}
AllStay P (s ∷ ss) = Stays P (answer_to s) × AllStay P ss

pub all_append : (P : Tree → Type 0) (xs ys : List Seen) → AllStay P xs → AllStay P ys → AllStay P (xs ++ ys)
all_append P [] ys p q = q
all_append P (x ∷ xs) ys p q = (p.0, all_append P xs ys p.1 q)

pub all_flat : (P : Tree → Type 0) (f : Tree → List Seen) (ts : List Tree) → ((t : Tree) → AllStay P (f t)) → AllStay P (flat_map f ts)
all_flat P f [] p = tt
all_flat P f (t ∷ ts) p = all_append P (f t) (flat_map f ts) (p t) (all_flat P f ts p)

-- so has each tree that stands
pub all_hold : (P : Tree → Type 0) (ss : List Seen) → AllStay P ss → Holds (OfAll P) (answer_of ss)
all_hold P [] h = λ f. tt
all_hold P (s ∷ ss) h = items_hold P (OfAll P) (λ t ts p q. (p, q)) (answer_to s) (answer_of ss) h.0 (all_hold P ss h.1)

pub some_weaker : (P Q : Tree → Type 0) → ((t : Tree) → P t → Q t) → (o : Option Tree) → IfSome o P → IfSome o Q
some_weaker P Q w None p = tt
some_weaker P Q w (Some t) p = w t p

pub all_weaker : (P Q : Tree → Type 0) → ((t : Tree) → P t → Q t) → (ss : List Seen) → AllStay P ss → AllStay Q ss
all_weaker P Q w [] h = tt
all_weaker P Q w (s ∷ ss) h = (λ f. some_weaker P Q w (answer_to s).stays (h.0 f), all_weaker P Q w ss h.1)

pub all_if : (P : Tree → Type 0) (b : Bool) (s : Seen) → Stays P (answer_to s) → AllStay P (if b then s ∷ [] else [])
all_if P true s p = (p, tt)
all_if P false s p = tt

pub both_some : (P Q : Tree → Type 0) (o : Option Tree) → IfSome o P → IfSome o Q → IfSome o (λ t. P t × Q t)
both_some P Q None p q = tt
both_some P Q (Some t) p q = (p, q)
