-- What stays, and the faults, one answer behind another.
use Rattle.std.proofs.Common.{◌≡◌, ◌∙◌, sym, ap, refl, ℕ, ◌+◌, ◌<◌, List, [], ◌∷◌, ◌++◌, map, take, length}
use Rattle.std.specs.List.{flat_map}
use lib.ListN.{get_or}
use Rattle.std.proofs.lemmas.List.{append-nil, append_assoc, take_more, map-append}
use Rattle.fast_check_tree_syntax.specs.declared.atom.Id.{Id}
use Rattle.fast_check_tree_syntax.specs.declared.tree.Tree.{Tree, Absent}
use Rattle.fast_check_meaning_signatures.specs.declared.fault.Fault.{Fault}
use Rattle.fast_check_meaning_signatures.specs.Answers.{answer_of}
use Rattle.fast_check_meaning_signatures.specs.Seen.{Seen, written}
use Rattle.fast_check_meaning_signatures.proofs.Adding.{answer_append}
use Rattle.fast_check_meaning_expandos.specs.declared.references.Reference.{Reference}
use Rattle.fast_check_meaning_expandos.specs.declared.properties.ExpandoProperty.{ExpandoProperty}
use Rattle.fast_check_meaning_expandos.specs.Expandos.{conflict_fault, conflict_seen, namespace_seen, by_object, namespaces_seen}
use Rattle.fast_check_meaning_expandos.specs.Merged.{Extends, merged, merged_seen, namespaces}

-- nothing
pub extends_none : (items : List Tree) (faults : List Fault) → Extends (answer_of []) items items faults faults
extends_none items faults = record { items = sym (append-nil items); faults = sym (append-nil faults) }

-- a tree behind others
pub extends_tree : (ss : List Seen) (t : Tree) {old mid new : List Tree} {fs gs : List Fault} →
    Extends (answer_of ss) old mid fs gs → new ≡ mid ++ t ∷ [] → Extends (answer_of (ss ++ written t ∷ [])) old new fs gs
extends_tree ss t {old} {mid} {new} {fs} {gs} h e = record {
  items = e ∙ (ap (λ ts. ts ++ t ∷ []) h.items ∙ (append_assoc old (answer_of ss).stays (t ∷ [])
      ∙ ap (λ a. old ++ a.stays) (sym (answer_append ss (written t ∷ [])))));
  faults = h.faults ∙ (ap (λ rest. fs ++ rest) (sym (append-nil (answer_of ss).faults))
      ∙ ap (λ a. fs ++ a.faults) (sym (answer_append ss (written t ∷ []))));
}

-- a conflict behind others
pub extends_conflict : (ss us : List Seen) (object : Id) (r : Reference) {old mid new : List Tree} {fs gs hs : List Fault} →
    us ≡ ss ++ conflict_seen object r ∷ [] → Extends (answer_of ss) old mid fs gs → new ≡ mid ++ Absent ∷ [] →
    hs ≡ gs ++ conflict_fault object r ∷ [] →
    Extends (answer_of us) old new fs hs
extends_conflict ss us object r {old} {mid} {new} {fs} {gs} {hs} u h e f =
    let both = ap answer_of u ∙ answer_append ss (conflict_seen object r ∷ []) in record {
      items = e ∙
          (ap (λ ts. ts ++ Absent ∷ []) h.items ∙
          (append_assoc old (answer_of ss).stays (Absent ∷ []) ∙ ap (λ a. old ++ a.stays) (sym both)));
      faults = f ∙ (ap (λ ts. ts ++ conflict_fault object r ∷ []) h.faults
          ∙ (append_assoc fs (answer_of ss).faults (conflict_fault object r ∷ []) ∙ ap (λ a. fs ++ a.faults) (sym both)));
    }

-- what is behind the first of a list
pub rest_extends : (xs ys : List Seen) {old new goal : List Tree} {fs gs end : List Fault} → Extends (answer_of xs) old new fs gs →
    old ++ (answer_of (xs ++ ys)).stays ≡ goal → fs ++ (answer_of (xs ++ ys)).faults ≡ end →
    (new ++ (answer_of ys).stays ≡ goal) × (gs ++ (answer_of ys).faults ≡ end)
rest_extends xs ys {old} {new} {goal} {fs} {gs} {end} h p q = (
  ap (λ ts. ts ++ (answer_of ys).stays) h.items ∙ (append_assoc old (answer_of xs).stays (answer_of ys).stays
      ∙ (ap (λ a. old ++ a.stays) (sym (answer_append xs ys)) ∙ p)),
  ap (λ ts. ts ++ (answer_of ys).faults) h.faults ∙ (append_assoc fs (answer_of xs).faults (answer_of ys).faults
      ∙ (ap (λ a. fs ++ a.faults) (sym (answer_append xs ys)) ∙ q)),
)

-- one more of a list
pub one_taken : {A B : Type 0} (f : A → B) (xs : List A) (i : ℕ) (x : A) → i < length xs → x ≡ get_or xs i x →
    map f (take (i + 1) xs) ≡ map f (take i xs) ++ f x ∷ []
one_taken f xs i x h e = ap (map f) (take_more xs i x h ∙ ap (λ u. take i xs ++ u ∷ []) (sym e)) ∙ map-append f (take i xs) (x ∷ [])

-- what is seen of namespaces that are merged is what is seen of their properties
each_merged : (gs : List (Id × List ExpandoProperty)) →
    flat_map merged_seen (map (λ (g : Id × List ExpandoProperty). (g.0, merged g.1)) gs) ≡ flat_map namespace_seen gs
each_merged [] = refl
each_merged (g ∷ gs) = ap (λ ss. namespace_seen g ++ ss) (each_merged gs)

pub all_merged_seen : (ps : List ExpandoProperty) → flat_map merged_seen (namespaces ps) ≡ namespaces_seen ps
all_merged_seen ps = each_merged (by_object ps)
