-- What a loop adds: what all give is what the rest gives, behind what was given so far.
use Rattle.std.specs.Prelude.{◌≡◌, Option, Some, None, List, [], ◌∷◌, ◌++◌, refl, option_map, Result, IfOk}
use Rattle.std.proofs.Common.{ap, ◌∙◌, sym, subst, append-nil, append_assoc}
use Rattle.std.proofs.lemmas.Result.{IfOk-weaker}
use Rattle.fast_check_tree_syntax.specs.declared.tree.Tree.{Tree}
use Rattle.fast_check_meaning_signatures.specs.declared.fault.Fault.{Fault}
use Rattle.fast_check_tree_syntax.specs.declared.kind.Kind.TheVariants as kinds
use Rattle.fast_check_tree_syntax.specs.declared.tree.Tree as tree
use Rattle.fast_check_tree_syntax.specs.Shape.{node, list}
use Rattle.fast_check_tree_forms_classes.specs.Functions.{Param-span, param}
use Rattle.fast_check_tree_forms_expressions.specs.Patterns.{assign_pat}
use Rattle.fast_check_meaning_signatures.specs.declared.fault.FaultKind.TheVariants.{MissingExplicitType}
use Rattle.fast_check_meaning_signatures.specs.Seen.{Seen, DefaultHead}
use Rattle.fast_check_meaning_signatures.specs.Functions.{param_seen}
use Rattle.fast_check_meaning_signatures.specs.Answers.{Answer, Adds, answer_to, faultless, joined, visited, with_tree, demanded, default_answer}
use Rattle.fast_check_meaning_signatures.specs.Answers.{fault_at}
use Rattle.fast_check_meaning_signatures.proofs.Adding.{adds_made, adds_nothing, adds_visited}

pub record Behind {A : Type 0} (put : A → A) (all rest : Answer A) (old new : List Fault) : Type 0 where
  pub added : List Fault
  pub is : all ≡ record { stays = put rest.stays; faults = added ++ rest.faults }
  pub faults : new ≡ old ++ added

-- the items so far before those of parts that may all stay
abbrev pub behind : List Tree → Option (List Tree) → Option (List Tree)
behind items more = option_map (λ ts. items ++ ts) more

pub behind_along : {A : Type 0} {put : A → A} {all first rest : Answer A} {old new : List Fault} → first ≡ rest →
    Behind put all first old new →
    Behind put all rest old new
behind_along {put = put} e h = record {
  added = h.added;
  is = h.is ∙ ap (λ x. record { stays = put x.stays; faults = h.added ++ x.faults }) e;
  faults = h.faults;
}

pub items_are : {items more : List Tree} {all rest : Answer (Option (List Tree))} {old new : List Fault} → items ≡ more →
    Behind (behind items) all rest old new → Behind (behind more) all rest old new
items_are {rest = rest} e h = record {
  added = h.added;
  is = h.is ∙ ap (λ ts. record { stays = behind ts rest.stays; faults = h.added ++ rest.faults }) e;
  faults = h.faults;
}

-- what is given by another name
pub adds_given : {A : Type 0} {a : Answer A} {x y : A} {old new : List Fault} → x ≡ y → Adds a x old new → Adds a y old new
adds_given e h = record { added = h.added; is = h.is ∙ ap (λ s. record { stays = s; faults = h.added }) e; faults = h.faults }

-- one call more
steps : {A : Type 0} {put after : A → A} {all rest : Answer A} (first : Answer A) {old mid new : List Fault} (fs : List Fault) →
    Behind put all first old mid →
    first.faults ≡ fs ++ rest.faults → put first.stays ≡ after rest.stays → new ≡ mid ++ fs → Behind after all rest old new
steps {rest = rest} first {old = old} fs h p q e = record {
  added = h.added ++ fs;
  is = h.is ∙ (λ i. record { stays = q i; faults = (ap (λ gs. h.added ++ gs) p ∙ sym (append_assoc h.added fs rest.faults)) i });
  faults = e ∙ (ap (λ gs. gs ++ fs) h.faults ∙ append_assoc old h.added fs);
}

-- ---- parts of a node

none_behind : (o : Option (List Tree)) → o ≡ behind [] o
none_behind None = refl
none_behind (Some ts) = refl

pub parts_start : (all : Answer (Option (List Tree))) (old : List Fault) → Behind (behind []) all all old old
parts_start all old =
    record { added = []; is = λ i. record { stays = none_behind all.stays i; faults = all.faults }; faults = sym (append-nil old) }

one_behind : (items : List Tree) (t : Tree) (o : Option (List Tree)) →
    behind items (option_map (λ ts. t ∷ ts) o) ≡ behind (items ++ t ∷ []) o
one_behind items t None = refl
one_behind items t (Some ts) = ap Some (sym (append_assoc items (t ∷ []) ts))

pub parts_step : (items : List Tree) (t : Tree) {all : Answer (Option (List Tree))} (a : Answer (Option Tree))
    (rest : Answer (Option (List Tree)))
    {old mid new : List Fault} →
    Behind (behind items) all (visited a rest) old mid → Adds a (Some t) mid new → Behind (behind (items ++ t ∷ [])) all rest old new
parts_step items t a rest h g = steps (visited a rest) g.added h (ap (λ x. (visited x rest).faults) g.is)
    (ap (λ x. behind items (visited x rest).stays) g.is ∙ one_behind items t rest.stays) g.faults

pub parts_refused : (items : List Tree) {all : Answer (Option (List Tree))} (a : Answer (Option Tree)) (rest : Answer (Option (List Tree)))
    {old mid new : List Fault} →
    Behind (behind items) all (visited a rest) old mid → Adds a None mid new → Adds all None old new
parts_refused items a rest {old = old} h g = record {
  added = h.added ++ g.added;
  is = h.is ∙ ap (λ x. record { stays = behind items (visited x rest).stays; faults = h.added ++ (visited x rest).faults }) g.is;
  faults = g.faults ∙ (ap (λ gs. gs ++ g.added) h.faults ∙ append_assoc old h.added g.added);
}

pub parts_end : (items : List Tree) {all : Answer (Option (List Tree))} {old new : List Fault} →
    Behind (behind items) all (faultless (Some [])) old new →
    Adds all (Some items) old new
parts_end items h = record {
  added = h.added;
  is = h.is ∙ (λ i. record { stays = Some (append-nil items i); faults = append-nil h.added i });
  faults = h.faults;
}

-- ---- items, each for itself

pub items_start : (all : Answer (List Tree)) (old : List Fault) → Behind (λ ts. [] ++ ts) all all old old
items_start all old = record { added = []; is = refl; faults = sym (append-nil old) }

pub items_step : (items : List Tree) (t : Tree) {all : Answer (List Tree)} (a : Answer (Option Tree))
    (rest : Answer (List Tree)) {old mid new : List Fault} →
    Behind (λ ts. items ++ ts) all (joined with_tree a rest) old mid → Adds a (Some t) mid new →
    Behind (λ ts. (items ++ t ∷ []) ++ ts) all rest old new
items_step items t a rest h g = steps (joined with_tree a rest) g.added h (ap (λ x. x.faults ++ rest.faults) g.is)
    (ap (λ x. items ++ with_tree x.stays rest.stays) g.is ∙ sym (append_assoc items (t ∷ []) rest.stays)) g.faults

pub trees_are : {items more : List Tree} {all rest : Answer (List Tree)} {old new : List Fault} → items ≡ more →
    Behind (λ ts. items ++ ts) all rest old new → Behind (λ ts. more ++ ts) all rest old new
trees_are {all = all} {rest = rest} {old = old} {new = new} e h = subst (λ items. Behind (λ ts. items ++ ts) all rest old new) e h

pub items_end : (items : List Tree) {all : Answer (List Tree)} {old new : List Fault} →
    Behind (λ ts. items ++ ts) all (faultless []) old new →
    Adds all items old new
items_end items h = record {
  added = h.added;
  is = h.is ∙ (λ i. record { stays = append-nil items i; faults = append-nil h.added i });
  faults = h.faults;
}

-- ---- a parameter, by its pattern

abbrev pub with_pat : Tree → Tree → Tree
with_pat p pat = param (Param-span p) (list []) pat

pub param_added : (p : Tree) (s : Seen) {t : Tree} {old new : List Fault} → Adds (answer_to s) (Some t) old new →
    Adds (answer_to (param_seen p s)) (Some (with_pat p t)) old new
param_added p s {old = old} {new = new} h =
    adds_made (option_map (node kinds.Param)) (adds_visited (adds_nothing (Some (tree.Range (Param-span p))) old)
    (adds_visited (adds_nothing (Some (list [])) old) (adds_visited h (adds_nothing (Some []) new))))

-- ---- a pattern with a default that has to stay

pub default_made : {E : Type 0} (made : Result Tree E) (d : DefaultHead) (value : Answer (Option Tree)) {right : Tree}
    (old new : List Fault) →
    Adds (demanded (fault_at MissingExplicitType d.place) value) right old new → IfOk made (λ t. t ≡ assign_pat d.span d.left right) →
    IfOk made (λ t. Adds (default_answer d value) (Some t) old new)
default_made made d value {right} old new h = IfOk-weaker made _ _ go
  where
    go : (t : Tree) → t ≡ assign_pat d.span d.left right → Adds (default_answer d value) (Some t) old new
    go t e = adds_given (ap Some (sym e)) (adds_made (λ v. Some (assign_pat d.span d.left v)) h)
