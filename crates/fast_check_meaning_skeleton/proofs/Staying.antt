-- What stays without a fault: each lemma makes of what holds of the parts what holds of the whole.
use Rattle.std.specs.Prelude.{◌≡◌, Option, Some, None, List, [], ◌∷◌, ◌++◌, IfSome, option_map, unwrap_or, refl}
use Rattle.std.proofs.Common.{sym, subst}
use Rattle.fast_check_tree_syntax.specs.declared.kind.Kind.{Kind}
use Rattle.fast_check_tree_syntax.specs.declared.tree.Tree.{Tree, Absent}
use Rattle.fast_check_tree_syntax.specs.Shape.{node}
use Rattle.fast_check_meaning_signatures.specs.declared.fault.Fault.{Fault}
use Rattle.fast_check_meaning_signatures.specs.Answers.{Answer, faultless, joined, unless_stays, demanded, before, visited, with_tree, round_answer}
use Rattle.fast_check_meaning_signatures.proofs.Choices.{no_left, no_right, not_empty}

-- what stays has a property, if nothing is at fault
abbrev pub Holds : {A : Type 0} → (A → Type 0) → Answer A → Type 0
Holds P a = a.faults ≡ [] → P a.stays

-- so it has where it may stay
abbrev pub Stays : {A : Type 0} → (A → Type 0) → Answer (Option A) → Type 0
Stays P a = Holds (λ o. IfSome o P) a

mapped : {A B : Type 0} (P : A → Type 0) (R : B → Type 0) (f : A → B) → ((x : A) → P x → R (f x)) → (o : Option A) → IfSome o P →
    IfSome (option_map f o) R
mapped P R f made None p = tt
mapped P R f made (Some x) p = made x p

-- ---- parts of a node

pub visited_stays : (P : Tree → Type 0) (Q R : List Tree → Type 0) → ((t : Tree) (ts : List Tree) → P t → Q ts → R (t ∷ ts)) →
    (a : Answer (Option Tree)) (rest : Answer (Option (List Tree))) → Stays P a → Stays Q rest → Stays R (visited a rest)
visited_stays P Q R made a rest p q = go a.stays a.faults p
  where
    go : (o : Option Tree) (fs : List Fault) → (fs ≡ [] → IfSome o P) → Stays R (before o fs rest)
    go None fs p f = tt
    go (Some t) fs p f = mapped Q R (λ ts. t ∷ ts) (λ ts. made t ts (p (no_left fs rest.faults f))) rest.stays
        (q (no_right fs rest.faults f))

pub round_stays : (kind : Kind) (Q : List Tree → Type 0) (R : Tree → Type 0) → ((ts : List Tree) → Q ts → R (node kind ts)) →
    (a : Answer (Option (List Tree))) → Stays Q a → Stays R (round_answer kind a)
round_stays kind Q R made a q f = mapped Q R (node kind) made a.stays (q f)

-- ---- items, each for itself

pub items_hold : (P : Tree → Type 0) (Q : List Tree → Type 0) → ((t : Tree) (ts : List Tree) → P t → Q ts → Q (t ∷ ts)) →
    (a : Answer (Option Tree)) (rest : Answer (List Tree)) → Stays P a → Holds Q rest → Holds Q (joined with_tree a rest)
items_hold P Q made a rest p q f = go a.stays (p (no_left a.faults rest.faults f)) (q (no_right a.faults rest.faults f))
  where
    go : (o : Option Tree) → IfSome o P → Q rest.stays → Q (with_tree o rest.stays)
    go None p q = q
    go (Some t) p q = made t rest.stays p q

-- ---- what has to stay

pub demanded_holds : (P : Tree → Type 0) (fault : Fault) (a : Answer (Option Tree)) → Stays P a → Holds P (demanded fault a)
demanded_holds P fault a p = go a.stays a.faults p
  where
    go : (o : Option Tree) (fs : List Fault) → (fs ≡ [] → IfSome o P) → fs ++ unless_stays o fault ≡ [] → P (unwrap_or o Absent)
    go None fs p f = not_empty (no_right fs (fault ∷ []) f)
    go (Some t) fs p f = p (no_left fs [] f)

-- ---- two answers, as one tree

pub joined_stays : {A B : Type 0} (P : A → Type 0) (Q : B → Type 0) (R : Tree → Type 0) (f : A → B → Tree) →
    ((x : A) (y : B) → P x → Q y → R (f x y)) →
    (a : Answer A) (b : Answer B) → Holds P a → Holds Q b → Stays R (joined (λ x y. Some (f x y)) a b)
joined_stays P Q R f made a b p q e = made a.stays b.stays (p (no_left a.faults b.faults e)) (q (no_right a.faults b.faults e))

-- a tree that stands as it is, before other parts, and the last part
pub written_before : (Q : List Tree → Type 0) (t : Tree) (rest : Answer (Option (List Tree))) → Stays (λ ts. Q (t ∷ ts)) rest →
    Stays Q (visited (faultless (Some t)) rest)
written_before Q t rest q f = mapped (λ ts. Q (t ∷ ts)) Q (λ ts. t ∷ ts) (λ ts h. h) rest.stays (q f)

pub last_stays : (P : Tree → Type 0) (Q : List Tree → Type 0) → ((t : Tree) → P t → Q (t ∷ [])) → (a : Answer (Option Tree)) → Stays P a →
    Stays Q (visited a (faultless (Some [])))
last_stays P Q made a p =
    visited_stays P (λ ts. ts ≡ []) Q (λ t ts h e. subst (λ us. Q (t ∷ us)) (sym e) (made t h)) a (faultless (Some [])) p (λ f. refl)
