-- What calls add, one after the other: each lemma makes of the clauses of smaller calls that of a larger one.
use Rattle.std.specs.Prelude.{◌≡◌, Option, Some, None, Result, IfOk, List, [], ◌∷◌, ◌++◌, refl, unwrap_or, option_map}
use Rattle.std.proofs.Common.{ap, ap₂, ◌∙◌, sym, subst}
use Rattle.std.proofs.lemmas.List.{append-nil, append_assoc}
use Rattle.std.proofs.lemmas.Result.{IfOk-weaker}
use Rattle.fast_check_tree_syntax.specs.declared.tree.Tree.{Tree, Absent}
use Rattle.fast_check_meaning_signatures.specs.declared.fault.Fault.{Fault}
use Rattle.fast_check_meaning_signatures.specs.Seen.{Seen}
use Rattle.fast_check_meaning_signatures.specs.Answers.{Answer, Adds, faultless, made, joined, settled, demanded, visited, with_tree, answer_to}
use Rattle.fast_check_meaning_signatures.specs.Answers.{answer_of}

-- nothing is added
pub adds_nothing : {A : Type 0} (given : A) (old : List Fault) → Adds (faultless given) given old old
adds_nothing given old = record { added = []; is = refl; faults = sym (append-nil old) }

-- one fault is
pub adds_fault : {A : Type 0} (given : A) (fault : Fault) (old : List Fault) →
    Adds (record { stays = given; faults = fault ∷ [] }) given old (old ++ fault ∷ [])
adds_fault given fault old = record { added = fault ∷ []; is = refl; faults = refl }

-- an answer that is another one
pub adds_same : {A : Type 0} {a b : Answer A} {given : A} {old new : List Fault} → b ≡ a → Adds a given old new → Adds b given old new
adds_same e h = record { added = h.added; is = e ∙ h.is; faults = h.faults }

-- what is made of what is given
pub adds_made : {A B : Type 0} (f : A → B) {a : Answer A} {given : A} {old new : List Fault} → Adds a given old new →
    Adds (made f a) (f given) old new
adds_made f h = record { added = h.added; is = ap (made f) h.is; faults = h.faults }

-- of two calls, the one after the other
pub adds_joined : {A B C : Type 0} (f : A → B → C) {a : Answer A} {b : Answer B} {x : A} {y : B} {old mid new : List Fault} →
    Adds a x old mid → Adds b y mid new → Adds (joined f a b) (f x y) old new
adds_joined f {old = old} g h = record {
  added = g.added ++ h.added;
  is = ap₂ (joined f) g.is h.is;
  faults = h.faults ∙ (ap (λ fs. fs ++ h.added) g.faults ∙ append_assoc old g.added h.added);
}

-- what always stays
pub adds_settled : {a : Answer (Option Tree)} {t : Tree} {old new : List Fault} → Adds a (Some t) old new → Adds (settled a) t old new
adds_settled h = adds_made (λ o. unwrap_or o Absent) h

-- what has to stay: it does, or this is wrong besides
pub adds_demanded : (fault : Fault) {a : Answer (Option Tree)} {t : Tree} {old new : List Fault} → Adds a (Some t) old new →
    Adds (demanded fault a) t old new
adds_demanded fault {t = t} h = record {
  added = h.added;
  is = ap (demanded fault) h.is ∙ (λ i. record { stays = t; faults = append-nil h.added i });
  faults = h.faults;
}

pub adds_missing : (fault : Fault) {a : Answer (Option Tree)} {old mid : List Fault} → Adds a None old mid →
    Adds (demanded fault a) Absent old (mid ++ fault ∷ [])
adds_missing fault {old = old} h = record {
  added = h.added ++ fault ∷ [];
  is = ap (demanded fault) h.is;
  faults = ap (λ fs. fs ++ fault ∷ []) h.faults ∙ append_assoc old h.added (fault ∷ []);
}

-- a part of a node that stays, before the others
pub adds_visited : {a : Answer (Option Tree)} {rest : Answer (Option (List Tree))} {t : Tree} {o : Option
    (List Tree)} {old mid new : List Fault} →
    Adds a (Some t) old mid → Adds rest o mid new → Adds (visited a rest) (option_map (λ ts. t ∷ ts) o) old new
adds_visited {old = old} g h = record {
  added = g.added ++ h.added;
  is = ap₂ visited g.is h.is;
  faults = h.faults ∙ (ap (λ fs. fs ++ h.added) g.faults ∙ append_assoc old g.added h.added);
}

-- one that may not stay: the others are not visited
pub adds_refused : {a : Answer (Option Tree)} (rest : Answer (Option (List Tree))) {old new : List Fault} → Adds a None old new →
    Adds (visited a rest) None old new
adds_refused rest h = record { added = h.added; is = ap (λ x. visited x rest) h.is; faults = h.faults }

-- ---- items, one list before another

with_tree_append : (o : Option Tree) (ts us : List Tree) → with_tree o (ts ++ us) ≡ with_tree o ts ++ us
with_tree_append None ts us = refl
with_tree_append (Some t) ts us = refl

pub answer_append : (xs ys : List Seen) → answer_of (xs ++ ys) ≡ joined (λ ts us. ts ++ us) (answer_of xs) (answer_of ys)
answer_append [] ys = refl
answer_append (x ∷ xs) ys = λ i. record {
  stays = (ap (λ a. with_tree (answer_to x).stays a.stays) (answer_append xs ys)
      ∙ with_tree_append (answer_to x).stays (answer_of xs).stays (answer_of ys).stays) i;
  faults = (ap (λ a. (answer_to x).faults ++ a.faults) (answer_append xs ys)
      ∙ sym (append_assoc (answer_to x).faults (answer_of xs).faults (answer_of ys).faults)) i;
}

-- a call that makes this tree gives the answer
pub some_of : {E : Type 0} {a : Answer (Option Tree)} {x y : Tree} {old new : List Fault} (r : Result Tree E) → IfOk r (λ t. t ≡ x) →
    Adds a (Some y) old new → x ≡ y → IfOk r (λ t. Adds a (Some t) old new)
some_of {a = a} {old = old} {new = new} r e h q = IfOk-weaker r _ _ (λ t p. subst (λ u. Adds a (Some u) old new) (sym (p ∙ q)) h) e
