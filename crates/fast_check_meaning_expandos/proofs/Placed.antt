-- The namespaces of properties, when one property more comes.
use Rattle.std.proofs.Common.{◌≡◌, ◌∙◌, sym, ap, refl, Bool, true, false, ◌||◌, List, [], ◌∷◌, ◌++◌, if◌then◌else◌}
use Rattle.std.proofs.lemmas.List.{append-nil, map-append}
use Rattle.std.proofs.lemmas.List.Concat.{flat_map-append}
use Rattle.std.specs.List.{flat_map, list_any}
use Rattle.fast_check_tree_syntax.specs.declared.atom.Id.{Id}
use Rattle.fast_check_tree_syntax.specs.declared.tree.Tree.{Tree}
use Rattle.fast_check_tables_modules.specs.symbols.Tables.{same_id}
use Rattle.fast_check_meaning_expandos.specs.declared.namespaces.Namespace.{Namespace}
use Rattle.fast_check_meaning_expandos.specs.declared.properties.ExpandoProperty.{ExpandoProperty}
use Rattle.fast_check_meaning_expandos.specs.Merged.{merged, with_property, placed_property, namespaces}
use Rattle.fast_check_meaning_expandos.proofs.Grouped.{placed, one_item_more}
use Rattle.fast_check_meaning_expandos.proofs.SameIds.{one_id}

or_false : (b : Bool) → (b || false) ≡ b
or_false true = refl
or_false false = refl

or_more : (a b c d : Bool) → b ≡ (c || d) → (a || b) ≡ ((a || c) || d)
or_more true b c d e = refl
or_more false b c d e = e

any_append : (ps : List ExpandoProperty) (p : ExpandoProperty) →
    list_any (λ q. q.is_exported) (ps ++ p ∷ []) ≡ list_any (λ q. q.is_exported) ps || p.is_exported
any_append [] p = or_false p.is_exported
any_append (q ∷ qs) p = or_more q.is_exported _ _ _ (any_append qs p)

merged_more : (ps : List ExpandoProperty) (p : ExpandoProperty) → merged (ps ++ p ∷ []) ≡ with_property (merged ps) p
merged_more ps p = λ i. record {
  is_exported = any_append ps p i;
  conflicts = (flat_map-append (λ q. q.conflicts) ps (p ∷ []) ∙ ap (λ rs. flat_map (λ q. q.conflicts) ps ++ rs) (append-nil p.conflicts)) i;
  declarators = map-append (λ q. q.declarator) ps (p ∷ []) i;
}

pub same_placed : (p : ExpandoProperty) (es : List (Id × Namespace)) →
    placed same_id (λ q. q.object) merged with_property p es ≡ placed_property p es
same_placed p [] = refl
same_placed p (e ∷ es) = ap (λ rest. if same_id p.object e.0 then (e.0, with_property e.1 p) ∷ es else e ∷ rest) (same_placed p es)

pub one_property_more : (ps : List ExpandoProperty) (p : ExpandoProperty) → namespaces (ps ++ p ∷ []) ≡ placed_property p (namespaces ps)
one_property_more ps p =
    one_item_more same_id (λ q. q.object) merged with_property one_id merged_more ps p ∙ same_placed p (namespaces ps)

-- the namespace of one property alone
abbrev pub alone : ExpandoProperty → List Tree → Namespace
alone p ds = record { is_exported = p.is_exported; conflicts = p.conflicts; declarators = ds }

pub merged_one : (p : ExpandoProperty) (ds : List Tree) → ds ≡ [] ++ p.declarator ∷ [] → alone p ds ≡ merged (p ∷ [])
merged_one p ds e = λ i. record {
  is_exported = sym (or_false p.is_exported) i;
  conflicts = sym (append-nil p.conflicts) i;
  declarators = e i;
}
