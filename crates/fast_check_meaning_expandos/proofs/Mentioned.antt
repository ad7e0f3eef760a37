-- What conflicts of a value goes by the names that it mentions, and by no others.
use Rattle.std.proofs.Common.{◌≡◌, ◌∙◌, sym, ap, refl, ℕ, Bool, true, false, ◌&&◌, ◌==◌, List, [], ◌∷◌, ◌++◌, map, if◌then◌else◌}
use Rattle.std.specs.List.{flat_map, filter}
use Rattle.std.proofs.lemmas.List.Elements.{filter-append}
use Rattle.fast_check_tree_syntax.specs.declared.kind.Kind.TheVariants as kinds
use Rattle.fast_check_tree_syntax.specs.declared.source.SyntaxContext.{SyntaxContext}
use Rattle.fast_check_tree_syntax.specs.declared.tree.Tree.{Tree, Absent}
use Rattle.fast_check_tree_syntax.specs.Shape.{◌is◌, kind_of, parts, OfAll}
use Rattle.fast_check_tree_syntax.specs.Recursion.{by_form_absent}
use Rattle.fast_check_tree_syntax.proofs.Induction.{tree_ind}
use Rattle.fast_check_tree_forms_programs.specs.Names.{Ident-span, Ident-ctxt, Ident-sym}
use Rattle.fast_check_meaning_expandos.specs.declared.references.Reference.{Reference}
use Rattle.fast_check_meaning_expandos.specs.References.{own_reference, references, references_form, once_a_name, conflicts, mentioned}
use Rattle.fast_check_meaning_expandos.proofs.ReferencesOut.{references_out}

module _ (scope : SyntaxContext) where
  abbrev all : Tree → List Reference
  all = references scope (λ name. true)

  module _ (exported : List ℕ → Bool) where
    abbrev is_exported : Reference → Bool
    is_exported r = exported r.name

    own_filtered : (t : Tree) → own_reference scope exported t ≡ filter is_exported (own_reference scope (λ name. true) t)
    own_filtered t =
        by (kind_of t is kinds.Ident) ((Ident-ctxt t).0 == scope.0) (exported (Ident-sym t)) refl
      where
        by : (k s e : Bool) → exported (Ident-sym t) ≡ e →
            (if k && (s && e) then record { name = Ident-sym t; range = Ident-span t } ∷ [] else []) ≡
            filter is_exported (if k && (s && true) then record { name = Ident-sym t; range = Ident-span t } ∷ [] else [])
        by true true true e = rw e refl
        by true true false e = rw e refl
        by true false x e = refl
        by false s x e = refl

    abbrev IsFiltered : Tree → Type 0
    IsFiltered t = references scope exported t ≡ filter is_exported (all t)

    all_filtered : (ts : List Tree) → OfAll IsFiltered ts → flat_map (references scope exported) ts ≡ filter is_exported (flat_map all ts)
    all_filtered [] h = refl
    all_filtered (t ∷ ts) h = (λ i. h.0 i ++ all_filtered ts h.1 i) ∙ sym (filter-append is_exported (all t) (flat_map all ts))

    none_at_absent : IsFiltered Absent
    unfolding references
    none_at_absent =
        by_form_absent [] (references_form scope exported) ∙ sym
        (ap (filter is_exported) (by_form_absent [] (references_form scope (λ name. true))))

    -- of all references those by a name that is exported
    references_filtered : (t : Tree) → references scope exported t ≡ filter is_exported (all t)
    references_filtered = tree_ind IsFiltered none_at_absent (λ t n h.
        references_out scope exported t
        ∙ ((λ i. own_filtered t i ++ all_filtered (parts t) h i)
        ∙ (sym (filter-append is_exported (own_reference scope (λ name. true) t) (flat_map all (parts t)))
        ∙ ap (filter is_exported) (sym (references_out scope (λ name. true) t)))))

  filter_same : (p q : List ℕ → Bool) (rs : List Reference) → map p (map (λ r. r.name) rs) ≡ map q (map (λ r. r.name) rs) →
      filter (λ r. p r.name) rs ≡ filter (λ r. q r.name) rs
  filter_same p q [] e = refl
  filter_same p q (r ∷ rs) e =
      let first : p r.name ≡ q r.name = cc in
      let rest : map p (map (λ x. x.name) rs) ≡ map q (map (λ x. x.name) rs) = cc in
      by (p r.name) (q r.name) first (filter_same p q rs rest)
    where
      by : (a b : Bool) → a ≡ b → filter (λ x. p x.name) rs ≡ filter (λ x. q x.name) rs →
          (if a then r ∷ filter (λ x. p x.name) rs else filter (λ x. p x.name) rs) ≡
          (if b then r ∷ filter (λ x. q x.name) rs else filter (λ x. q x.name) rs)
      by true true e f = ap (λ xs. r ∷ xs) f
      by false false e f = f
      by true false e f = cc
      by false true e f = cc

  -- two objects that export the same of the names that a value mentions conflict with the same of it
  pub conflicts_same : (p q : List ℕ → Bool) (value : Tree) → map p (mentioned scope value) ≡ map q (mentioned scope value) →
      conflicts scope p value ≡ conflicts scope q value
  conflicts_same p q value e =
      ap once_a_name (references_filtered p value ∙ (filter_same p q (all value) e ∙ sym (references_filtered q value)))
