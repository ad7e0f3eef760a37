-- What a value mentions, and moves.
use Rattle.std.proofs.Common.{◌≡◌, ◌∙◌, sym, ap, refl, ℕ, Bool, true, false, ◌&&◌, ◌==◌, List, [], ◌∷◌, ◌++◌, map, true≢false}
use Rattle.std.proofs.Common.{if◌then◌else◌}
use Rattle.std.specs.List.{flat_map}
use Rattle.std.specs.Cmp.{unsigned_Decides}
use Rattle.std.specs.Str.{bytes_eq}
use Rattle.std.proofs.lemmas.List.{map-append}
use Rattle.fast_check_tree_syntax.specs.declared.kind.Kind.TheVariants as kinds
use Rattle.fast_check_tree_syntax.specs.declared.source.SyntaxContext.{SyntaxContext}
use Rattle.fast_check_tree_syntax.specs.declared.source.SourceRange.{SourceRange}
use Rattle.fast_check_tree_syntax.specs.declared.tree.Tree.{Tree, Absent}
use Rattle.fast_check_tree_syntax.specs.Shape.{◌is◌, kind_of, part, parts, text_of, OfAll}
use Rattle.fast_check_tree_syntax.specs.Moves.{Moves, Keeps, moved, moved_range}
use Rattle.fast_check_tree_syntax.specs.Recursion.{by_form_absent}
use Rattle.fast_check_tree_syntax.proofs.Induction.{tree_ind}
use Rattle.fast_check_tree_syntax.proofs.Moved.{absent_moved, kind_of_moved, parts_moved, part_moved, text_of_moved, none_moved}
use Rattle.fast_check_tree_forms_programs.specs.Names.{Ident-span, Ident-ctxt, Ident-sym}
use Rattle.fast_check_tree_helpers.proofs.GlobalCallsMoved.{moved_scope}
use Rattle.fast_check_meaning_signatures.proofs.MovedParts.{range_field_moved, scope_field_moved}
use Rattle.fast_check_meaning_expandos.specs.declared.references.Reference.{Reference}
use Rattle.fast_check_meaning_expandos.specs.Groups.{grouped}
use Rattle.fast_check_meaning_expandos.specs.References.{is_reference, own_reference, references, references_form, last_range, once_a_name}
use Rattle.fast_check_meaning_expandos.specs.References.{conflicts}
use Rattle.fast_check_meaning_expandos.proofs.GroupsMoved.{grouped_moved}
use Rattle.fast_check_meaning_expandos.proofs.ReferencesOut.{references_out}

abbrev pub moved_reference : Moves → Reference → Reference
moved_reference m r = record { name = r.name; range = moved_range m r.range }

module _ (m : Moves) (ok : Keeps m) where
  -- scope numbers stay apart
  pub same_scope : (a b : ℕ) → (m.scopes a == m.scopes b) ≡ (a == b)
  same_scope a b = by (m.scopes a == m.scopes b) (a == b) refl refl
    where
      by : (p q : Bool) → (m.scopes a == m.scopes b) ≡ p → (a == b) ≡ q → p ≡ q
      by true true e f = refl
      by false false e f = refl
      by true false e f =
          absurd (true≢false (sym ((unsigned_Decides a b).1 (ok.scopes_apart a b ((unsigned_Decides (m.scopes a) (m.scopes b)).0 e))) ∙ f))
      by false true e f =
          absurd (true≢false (sym ((unsigned_Decides (m.scopes a) (m.scopes b)).1 (ap m.scopes ((unsigned_Decides a b).0 f))) ∙ e))

  module _ (scope : SyntaxContext) (exported : List ℕ → Bool) where
    sym_moved : (t : Tree) → Ident-sym (moved m t) ≡ Ident-sym t
    sym_moved t = ap text_of (part_moved m 2 t) ∙ text_of_moved m (part 2 t)

    is_reference_moved : (t : Tree) → is_reference (moved_scope m scope) exported (moved m t) ≡ is_reference scope exported t
    is_reference_moved t =
        (λ i. (kind_of_moved m t i is kinds.Ident) &&
        (((scope_field_moved m ok Ident-ctxt _ (λ u. refl) t i).0 == m.scopes scope.0) && exported
        (sym_moved t i)))
        ∙ ap (λ b. (kind_of t is kinds.Ident) && (b && exported (Ident-sym t))) (same_scope (Ident-ctxt t).0 scope.0)

    own_moved : (t : Tree) → own_reference (moved_scope m scope) exported (moved m t) ≡ map (moved_reference m)
        (own_reference scope exported t)
    own_moved t =
        (λ i. if is_reference_moved t i then record { name = sym_moved t i; range = range_field_moved m ok Ident-span _ (λ u. refl) t i } ∷
        [] else [])
        ∙ by (is_reference scope exported t)
      where
        by : (b : Bool) → (if b then record { name = Ident-sym t; range = moved_range m (Ident-span t) } ∷ [] else []) ≡
            map (moved_reference m) (if b then record { name = Ident-sym t; range = Ident-span t } ∷ [] else [])
        by true = refl
        by false = refl

    abbrev IsMovedAt : Tree → Type 0
    IsMovedAt t = references (moved_scope m scope) exported (moved m t) ≡ map (moved_reference m) (references scope exported t)

    all_moved : (ts : List Tree) → OfAll IsMovedAt ts →
        flat_map (references (moved_scope m scope) exported) (map (moved m) ts) ≡ map (moved_reference m)
        (flat_map (references scope exported) ts)
    all_moved [] h = refl
    all_moved (t ∷ ts) h =
        (λ i. h.0 i ++ all_moved ts h.1 i) ∙
        sym (map-append (moved_reference m) (references scope exported t) (flat_map (references scope exported) ts))

    none_at_absent : IsMovedAt Absent
    unfolding references
    none_at_absent =
        ap (references (moved_scope m scope) exported) (absent_moved m)
        ∙ (by_form_absent [] (references_form (moved_scope m scope) exported)
        ∙ sym (ap (map (moved_reference m)) (by_form_absent [] (references_form scope exported))))

    pub references_moved : (t : Tree) → references (moved_scope m scope) exported (moved m t) ≡ map (moved_reference m)
        (references scope exported t)
    references_moved = tree_ind IsMovedAt none_at_absent (λ t n h.
        references_out (moved_scope m scope) exported (moved m t)
        ∙ ((λ i. own_moved t i ++ flat_map (references (moved_scope m scope) exported) (parts_moved m t i))
        ∙ ((λ i. map (moved_reference m) (own_reference scope exported t) ++ all_moved (parts t) h i)
        ∙ (sym (map-append (moved_reference m) (own_reference scope exported t) (flat_map (references scope exported) (parts t)))
        ∙ ap (map (moved_reference m)) (sym (references_out scope exported t))))))

  last_moved : (rs : List Reference) → last_range (map (moved_reference m) rs) ≡ moved_range m (last_range rs)
  last_moved [] = sym (none_moved m ok)
  last_moved (r ∷ []) = refl
  last_moved (r ∷ s ∷ rs) = last_moved (s ∷ rs)

  abbrev once : List (List ℕ × List Reference) → List Reference
  once gs = map (λ (e : List ℕ × SourceRange). record { name = e.0; range = e.1 }) (map (λ g. (g.0, last_range g.1)) gs)

  each_once : (gs : List (List ℕ × List Reference)) → once (map (λ g. (g.0, map (moved_reference m) g.1)) gs) ≡ map (moved_reference m)
      (once gs)
  each_once [] = refl
  each_once (g ∷ gs) = λ i. record { name = g.0; range = last_moved g.1 i } ∷ each_once gs i

  once_moved : (rs : List Reference) → once_a_name (map (moved_reference m) rs) ≡ map (moved_reference m) (once_a_name rs)
  once_moved rs =
      ap once (grouped_moved bytes_eq bytes_eq (λ r. r.name) (λ r. r.name) (λ n. n) (moved_reference m) (λ a b. refl) (λ r. refl) rs)
      ∙ each_once (grouped bytes_eq (λ r. r.name) rs)

  pub conflicts_moved : (scope : SyntaxContext) (exported : List ℕ → Bool) (value : Tree) →
      conflicts (moved_scope m scope) exported (moved m value) ≡ map (moved_reference m) (conflicts scope exported value)
  conflicts_moved scope exported value = ap once_a_name (references_moved scope exported value) ∙
      once_moved (references scope exported value)
