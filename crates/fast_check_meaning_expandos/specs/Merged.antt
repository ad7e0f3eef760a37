-- Inner: no contract of a public call cites what stands here.
-- What stands in a namespace, by the properties of its object.
use Rattle.std.specs.Prelude.{◌≡◌, ◌||◌, List, [], ◌∷◌, ◌++◌, map, if◌then◌else◌}
use Rattle.std.specs.List.{flat_map, list_any}
use Rattle.fast_check_tree_syntax.specs.declared.atom.Id.{Id}
use Rattle.fast_check_tree_syntax.specs.declared.tree.Tree.{Tree}
use Rattle.fast_check_tables_modules.specs.symbols.Tables.{same_id}
use Rattle.fast_check_meaning_signatures.specs.declared.fault.Fault.{Fault}
use Rattle.fast_check_meaning_signatures.specs.Answers.{Answer}
use Rattle.fast_check_meaning_signatures.specs.Seen.{Seen, written}
use Rattle.fast_check_meaning_expandos.specs.declared.properties.ExpandoProperty.{ExpandoProperty}
use Rattle.fast_check_meaning_expandos.specs.declared.namespaces.Namespace.{Namespace}
use Rattle.fast_check_meaning_expandos.specs.Expandos.{by_object, conflict_seen, namespace_item}

-- the namespace of some properties
abbrev pub merged : List ExpandoProperty → Namespace
merged properties = record {
  is_exported = list_any (λ p. p.is_exported) properties;
  conflicts = flat_map (λ p. p.conflicts) properties;
  declarators = map (λ p. p.declarator) properties;
}

-- with one property more
abbrev pub with_property : Namespace → ExpandoProperty → Namespace
with_property n p = record {
  is_exported = n.is_exported || p.is_exported;
  conflicts = n.conflicts ++ p.conflicts;
  declarators = n.declarators ++ p.declarator ∷ [];
}

-- among others: in that of its object, or else in a last one
abbrev pub placed_property : ExpandoProperty → List (Id × Namespace) → List (Id × Namespace)
placed_property p [] = (p.object, merged (p ∷ [])) ∷ []
placed_property p (e ∷ es) = if same_id p.object e.0 then (e.0, with_property e.1 p) ∷ es else e ∷ placed_property p es

-- the namespaces of all objects
abbrev pub namespaces : List ExpandoProperty → List (Id × Namespace)
namespaces properties = map (λ g. (g.0, merged g.1)) (by_object properties)

-- what is seen of one
abbrev pub merged_seen : Id × Namespace → List Seen
merged_seen e = map (conflict_seen e.0) e.1.conflicts ++ written
    (namespace_item e.1.is_exported e.0.0 e.1.declarators) ∷ []

-- what stays is put behind the items, and the faults behind the others
pub record Extends (answer : Answer (List Tree)) (old new : List Tree) (earlier later : List Fault) : Type 0 where
  pub items : new ≡ old ++ answer.stays
  pub faults : later ≡ earlier ++ answer.faults
