-- Expando properties and their namespaces, and moves.
use Rattle.std.proofs.Common.{◌≡◌, ◌∙◌, sym, ap, ap₂, refl, ℕ, Bool, true, false, ◌&&◌, ◌||◌, List, [], ◌∷◌, ◌++◌, map}
use Rattle.std.specs.List.{flat_map, list_any}
use Rattle.std.specs.Str.{bytes_eq}
use Rattle.std.proofs.lemmas.List.{map-append}
use Rattle.fast_check_tree_syntax.specs.declared.atom.Id.{Id}
use Rattle.fast_check_tree_syntax.specs.declared.source.SourceRange.{SourceRange}
use Rattle.fast_check_tree_syntax.specs.declared.tree.Tree.{Tree}
use Rattle.fast_check_tree_syntax.specs.Shape.{part, text_of}
use Rattle.fast_check_tree_syntax.specs.Moves.{Moves, Keeps, moved, moved_range}
use Rattle.fast_check_tree_syntax.proofs.Moved.{node_moved, range_moved, none_moved, absent_moved, word_moved, flag_moved, text_moved}
use Rattle.fast_check_tree_syntax.proofs.Moved.{context_moved, part_moved, text_of_moved}
use Rattle.fast_check_tree_forms_programs.specs.Names.{Ident-ctxt}
use Rattle.fast_check_tree_forms_expressions.specs.Calls.{MemberExpr-obj}
use Rattle.fast_check_tree_helpers.proofs.GlobalCallsMoved.{moved_scope}
use Rattle.fast_check_tables_modules.specs.symbols.Tables.{same_id}
use Rattle.fast_check_meaning_signatures.proofs.MovedParts.{moved_seen, field_moved, scope_field_moved}
use Rattle.fast_check_meaning_signatures.specs.Seen.{written}
use Rattle.fast_check_meaning_expandos.specs.declared.properties.ExpandoProperty.{ExpandoProperty}
use Rattle.fast_check_meaning_expandos.specs.declared.references.Reference.{Reference}
use Rattle.fast_check_meaning_expandos.specs.Expandos.{object_of, property_name, property_declarator, property_of, exported_variables}
use Rattle.fast_check_meaning_expandos.specs.Expandos.{namespace_decl, namespace_item, conflict_seen, namespace_seen, by_object, namespaces_seen}
use Rattle.fast_check_meaning_expandos.specs.References.{conflicts}
use Rattle.fast_check_meaning_expandos.proofs.GroupsMoved.{grouped_moved}
use Rattle.fast_check_meaning_expandos.proofs.ReferencesMoved.{moved_reference, same_scope, conflicts_moved}

abbrev pub moved_id : Moves → Id → Id
moved_id m id = record { 0 = id.0; 1 = moved_scope m id.1 }

abbrev pub moved_expando : Moves → ExpandoProperty → ExpandoProperty
moved_expando m p = record {
  object = moved_id m p.object;
  is_exported = p.is_exported;
  declarator = moved m p.declarator;
  conflicts = map (moved_reference m) p.conflicts;
}

module _ (m : Moves) (ok : Keeps m) where
  property_declarator_moved : (place : SourceRange) (target value : Tree) → property_name (moved m target) ≡ property_name target →
      moved m (property_declarator place target value) ≡ property_declarator (moved_range m place) (moved m target) (moved m value)
  property_declarator_moved place target value e = rw e (simp
      (node_moved, range_moved, none_moved m ok, absent_moved, flag_moved, text_moved, context_moved, ok.scope_zero))

  text_kept : (n k : ℕ) (t : Tree) → text_of (part n (part k (moved m t))) ≡ text_of (part n (part k t))
  text_kept n k t = ap text_of (ap (part n) (part_moved m k t) ∙ part_moved m n (part k t)) ∙ text_of_moved m (part n (part k t))

  exported_variables_moved : (ds : List Tree) → moved m (exported_variables ds) ≡ exported_variables (map (moved m) ds)
  exported_variables_moved ds = simp (node_moved, range_moved, none_moved m ok, word_moved, flag_moved, context_moved, ok.scope_zero)

  namespace_decl_moved : (name : List ℕ) (ds : List Tree) → moved m (namespace_decl name ds) ≡ namespace_decl name (map (moved m) ds)
  namespace_decl_moved name ds =
      simp (node_moved, range_moved, none_moved m ok, word_moved, flag_moved, text_moved, context_moved, ok.scope_zero)

  namespace_item_moved : (is_exported : Bool) (name : List ℕ) (ds : List Tree) →
      moved m (namespace_item is_exported name ds) ≡ namespace_item is_exported name (map (moved m) ds)
  namespace_item_moved true name ds =
      simp (node_moved, range_moved, none_moved m ok, word_moved, flag_moved, text_moved, context_moved, ok.scope_zero)
  namespace_item_moved false name ds = namespace_decl_moved name ds

  -- what an object's properties are, moved
  any_kept : (ps : List ExpandoProperty) → list_any (λ p. p.is_exported) (map (moved_expando m) ps) ≡ list_any (λ p. p.is_exported) ps
  any_kept [] = refl
  any_kept (p ∷ ps) = ap (λ b. p.is_exported || b) (any_kept ps)

  declarators_moved : (ps : List ExpandoProperty) → map (λ p. p.declarator) (map (moved_expando m) ps) ≡ map (moved m)
      (map (λ p. p.declarator) ps)
  declarators_moved [] = refl
  declarators_moved (p ∷ ps) = ap (λ ds. moved m p.declarator ∷ ds) (declarators_moved ps)

  all_conflicts_moved : (ps : List ExpandoProperty) →
      flat_map (λ p. p.conflicts) (map (moved_expando m) ps) ≡ map (moved_reference m) (flat_map (λ p. p.conflicts) ps)
  all_conflicts_moved [] = refl
  all_conflicts_moved (p ∷ ps) =
      ap (λ rs. map (moved_reference m) p.conflicts ++ rs) (all_conflicts_moved ps)
      ∙ sym (map-append (moved_reference m) p.conflicts (flat_map (λ p. p.conflicts) ps))

  conflicts_seen_moved : (object : Id) (rs : List Reference) →
      map (conflict_seen (moved_id m object)) (map (moved_reference m) rs) ≡ map (moved_seen m) (map (conflict_seen object) rs)
  conflicts_seen_moved object [] = refl
  conflicts_seen_moved object (r ∷ rs) = ap (λ ss. moved_seen m (conflict_seen object r) ∷ ss) (conflicts_seen_moved object rs)

  namespace_seen_moved : (g : Id × List ExpandoProperty) →
      namespace_seen (moved_id m g.0, map (moved_expando m) g.1) ≡ map (moved_seen m) (namespace_seen g)
  namespace_seen_moved (object, ps) =
      (λ i. map (conflict_seen (moved_id m object)) (all_conflicts_moved ps i)
      ++ written (namespace_item (any_kept ps i) object.0 (declarators_moved ps i)) ∷ [])
      ∙ ((λ i. conflicts_seen_moved object (flat_map (λ p. p.conflicts) ps) i
      ++ written (sym (namespace_item_moved (list_any (λ p. p.is_exported) ps) object.0 (map (λ p. p.declarator) ps)) i) ∷ [])
      ∙ sym (map-append (moved_seen m) (map (conflict_seen object) (flat_map (λ p. p.conflicts) ps))
      (written (namespace_item (list_any (λ p. p.is_exported) ps) object.0 (map (λ p. p.declarator) ps)) ∷ [])))

  each_moved : (gs : List (Id × List ExpandoProperty)) →
      flat_map namespace_seen (map (λ g. (moved_id m g.0, map (moved_expando m) g.1)) gs) ≡ map (moved_seen m) (flat_map namespace_seen gs)
  each_moved [] = refl
  each_moved (g ∷ gs) = ap₂ ◌++◌ (namespace_seen_moved g) (each_moved gs) ∙
      sym (map-append (moved_seen m) (namespace_seen g) (flat_map namespace_seen gs))

  same_moved : (a b : Id) → same_id (moved_id m a) (moved_id m b) ≡ same_id a b
  same_moved a b = ap (λ c. bytes_eq a.0 b.0 && c) (same_scope m ok a.1.0 b.1.0)

  -- the namespaces of moved properties are what they were, moved
  pub namespaces_moved : (ps : List ExpandoProperty) → namespaces_seen (map (moved_expando m) ps) ≡ map (moved_seen m) (namespaces_seen ps)
  namespaces_moved ps =
      ap (flat_map namespace_seen)
      (grouped_moved same_id same_id (λ p. p.object) (λ p. p.object) (moved_id m) (moved_expando m) same_moved (λ p. refl) ps)
      ∙ each_moved (by_object ps)

  object_moved : (target : Tree) → object_of (moved m target) ≡ moved_id m (object_of target)
  object_moved target = λ i. record {
    0 = text_kept 2 1 target i;
    1 = (ap Ident-ctxt (field_moved m MemberExpr-obj _ (λ t. refl) target) ∙
        scope_field_moved m ok Ident-ctxt _ (λ t. refl) (MemberExpr-obj target)) i;
  }

  -- a property of moved parts, whose object exports the same names
  pub property_moved : (exported : List ℕ → Bool) (is_exported : Bool) (place : SourceRange) (target value : Tree) →
      property_of exported is_exported (moved_range m place) (moved m target) (moved m value) ≡
      moved_expando m (property_of exported is_exported place target value)
  property_moved exported is_exported place target value = λ i. record {
    object = object_moved target i;
    is_exported = is_exported;
    declarator = sym (property_declarator_moved place target value (text_kept 1 2 target)) i;
    conflicts = (ap (λ o. conflicts o.1 exported (moved m value)) (object_moved target)
        ∙ conflicts_moved m ok (object_of target).1 exported value) i;
  }
