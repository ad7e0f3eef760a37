-- What is seen of expressions and of defaults, by what the code asks of them.
use Rattle.std.specs.Prelude.{◌≡◌, ℕ, ◌+◌, ◌<◌, Bool, true, false, Option, Some, None, List, map, drop, length, refl}
use Rattle.std.specs.Prelude.{if◌then◌else◌}
use Rattle.std.proofs.Common.{ap, ◌∙◌, sym, get_or, add-one}
use Rattle.std.proofs.Math.Seq.{drop-cons}
use Rattle.std.specs.List.{list_all}
use Rattle.fast_check_tree_syntax.specs.declared.kind.Kind.{Kind}
use Rattle.fast_check_tree_syntax.specs.declared.kind.Kind.TheVariants as kinds
use Rattle.fast_check_tree_syntax.specs.declared.source.SourceRange.{SourceRange}
use Rattle.fast_check_tree_syntax.specs.declared.tree.Tree.{Tree}
use Rattle.fast_check_tree_syntax.specs.Shape.{◌is◌, kind_of, part, parts, is_absent}
use Rattle.fast_check_tree_forms_expressions.specs.Patterns.{AssignPat-span, AssignPat-left, AssignPat-right}
use Rattle.fast_check_tree_forms_expressions.specs.Patterns.{ArrayPat-span, ArrayPat-type_ann, ObjectPat-span, ObjectPat-type_ann}
use Rattle.fast_check_tree_forms_programs.specs.Names.{Ident-span, BindingIdent-id}
use Rattle.fast_check_tree_helpers.specs.OptionalParams.{is_optional_param}
use Rattle.fast_check_meaning_signatures.specs.declared.rules.Slot.{Slot}
use Rattle.fast_check_meaning_signatures.specs.Bindings.{Bindings}
use Rattle.fast_check_meaning_signatures.specs.Seen.{Seen, written, faulty, round, refused, seens}
use Rattle.fast_check_meaning_signatures.specs.Functions.{arrow_seen, param_seen}
use Rattle.fast_check_meaning_signatures.specs.Expressions.{is_compound, is_plain, is_known, Rule, whole, parted, slotted, arrow, not_at_all}
use Rattle.fast_check_meaning_signatures.specs.Expressions.{other_rule, rule, by_rule, slot_seen, slots_seen, expr_seen}
use Rattle.fast_check_meaning_signatures.specs.Answers.{answer_to, answer_of, joined, parts_answer, visited, with_tree}
use Rattle.fast_check_meaning_signatures.specs.Parameters.{emptied_array, emptied_object, default_seen, default_typing, without_default}
use Rattle.fast_check_meaning_signatures.specs.Parameters.{assign_seen, pat_by_kind, pat_seen, pats_seen}
use Rattle.fast_check_meaning_signatures.specs.declared.fault.FaultKind.TheVariants.{UnsupportedDestructuring}
use Rattle.fast_check_tree_helpers.specs.ranges.Ranges.{range_of_node}
use Rattle.fast_check_meaning_signatures.proofs.Looks.{expr_seen_is}
use Rattle.fast_check_transform_nodes.specs.Rows.{row_in, row_of}
use Rattle.fast_check_meaning_signatures.specs.Typing.{type_of, seen_by}
use Rattle.fast_check_tree_forms_classes.specs.Functions.{Param-pat}
use Rattle.fast_check_transform_expressions.specs.Looked.{patterns, params_looked}

pub not_leaf : (k : Kind) → is_plain k ≡ false → k ≡ kinds.Leaf → ⊥
not_leaf k plain e = let h : true ≡ false = sym (ap is_plain e) ∙ plain in cc

pub not_arrow : (k : Kind) → k is kinds.ArrowExpr ≡ false → k ≡ kinds.ArrowExpr → ⊥
not_arrow k other e = let h : true ≡ false = sym (ap (λ x. x is kinds.ArrowExpr) e) ∙ other in cc

-- ---- the next of a list, in a loop

pub next_part : (look : Tree → Seen) (ts : List Tree) (i : ℕ) (d : Tree) → i < length ts →
    parts_answer (seens (map look (drop i ts))) ≡
    visited (answer_to (look (get_or ts i d))) (parts_answer (seens (map look (drop (i + 1) ts))))
next_part look ts i d h = rw (add-one, drop-cons ts i d) refl

pub next_slot : (bindings : Bindings) (t : Tree) (place : Option SourceRange) (row : List Slot) (i : ℕ) (d : Slot) → i < length row →
    parts_answer (seens (slots_seen bindings (drop i row) i t (expr_seen bindings) place)) ≡
    visited (answer_to (slot_seen bindings (get_or row i d) (part i t) (expr_seen bindings) place))
    (parts_answer (seens (slots_seen bindings (drop (i + 1) row) (i + 1) t (expr_seen bindings) place)))
next_slot bindings t place row i d h = rw (add-one, drop-cons row i d) refl

pub next_pat : (bindings : Bindings) (pats : List Tree) (i : ℕ) (d : Tree) → i < length pats →
    answer_of (pats_seen bindings (expr_seen bindings) (drop i pats)) ≡
    joined with_tree (answer_to (pat_seen bindings (expr_seen bindings) (list_all is_optional_param (drop i pats)) (get_or pats i d)))
    (answer_of (pats_seen bindings (expr_seen bindings) (drop (i + 1) pats)))
next_pat bindings pats i d h = rw (add-one, drop-cons pats i d) refl

pub next_param : (bindings : Bindings) (params : List Tree) (i : ℕ) (d : Tree) → i < length params →
    answer_of (params_looked bindings (drop i params)) ≡
    joined with_tree (answer_to
    (param_seen (get_or params i d) (pat_seen bindings (expr_seen bindings) (list_all is_optional_param (patterns (drop i params)))
    (Param-pat (get_or params i d)))))
    (answer_of (params_looked bindings (drop (i + 1) params)))
next_param bindings params i d h = rw (add-one, drop-cons params i d) refl

pub slot_is : (bindings : Bindings) (a b : Slot) (p : Tree) (place : Option SourceRange) → a ≡ b →
    answer_to (slot_seen bindings a p (expr_seen bindings) place) ≡ answer_to (slot_seen bindings b p (expr_seen bindings) place)
slot_is bindings a b p place e = ap (λ s. answer_to (slot_seen bindings s p (expr_seen bindings) place)) e

-- ---- the rule of a kind

slotted_by : (r : Rule) (row : List Slot) → row_in r ≡ Some row → r ≡ slotted row
slotted_by (slotted slots) row e = ap slotted cc
slotted_by whole row e = cc
slotted_by parted row e = cc
slotted_by arrow row e = cc
slotted_by not_at_all row e = cc

refused_by : (k : Kind) (known : Bool) → row_of k known ≡ None → (k ≡ kinds.ArrowExpr → ⊥) → other_rule k known ≡ not_at_all
refused_by kinds.TsSatisfiesExpr known e n = cc
refused_by kinds.TsAsExpr known e n = cc
refused_by kinds.TsTypeAssertion known e n = cc
refused_by kinds.FnExpr known e n = cc
refused_by kinds.CallExpr true e n = cc
refused_by kinds.CallExpr false e n = refl
refused_by kinds.NewExpr true e n = cc
refused_by kinds.NewExpr false e n = refl
refused_by kinds.ArrowExpr known e n = absurd (n refl)
refused_by _ known e n = refl

module _ (bindings : Bindings) (t : Tree) (place : Option SourceRange) where
  abbrev by : Rule → Seen
  by r = by_rule bindings r (kind_of t) t (expr_seen bindings) place

  abbrev other : Rule
  other = other_rule (kind_of t) (is_known bindings t)

  pub seen_parted : is_compound (kind_of t) ≡ true →
      expr_seen bindings t place ≡ round (kind_of t) (seens (map (λ p. expr_seen bindings p None) (parts t)))
  seen_parted e = expr_seen_is bindings t place ∙ ap (λ b. by (if b then parted else (if is_plain (kind_of t) then whole else other))) e

  uncompounded : is_compound (kind_of t) ≡ false → expr_seen bindings t place ≡ by (if is_plain (kind_of t) then whole else other)
  uncompounded e = expr_seen_is bindings t place ∙ ap (λ b. by (if b then parted else (if is_plain (kind_of t) then whole else other))) e

  pub seen_whole : is_compound (kind_of t) ≡ false → is_plain (kind_of t) ≡ true → expr_seen bindings t place ≡ written t
  seen_whole e p = uncompounded e ∙ ap (λ b. by (if b then whole else other)) p

  unplain : is_compound (kind_of t) ≡ false → is_plain (kind_of t) ≡ false → expr_seen bindings t place ≡ by other
  unplain e p = uncompounded e ∙ ap (λ b. by (if b then whole else other)) p

  pub seen_arrow : kind_of t ≡ kinds.ArrowExpr → expr_seen bindings t place ≡ arrow_seen bindings (expr_seen bindings) place t
  seen_arrow e = expr_seen_is bindings t place ∙ ap (λ k. by_rule bindings (rule k (is_known bindings t)) k t (expr_seen bindings) place) e

  pub seen_slotted : (row : List Slot) → is_compound (kind_of t) ≡ false → is_plain (kind_of t) ≡ false →
      row_of (kind_of t) (is_known bindings t) ≡ Some row →
      expr_seen bindings t place ≡ round (kind_of t) (seens (slots_seen bindings row 0 t (expr_seen bindings) place))
  seen_slotted row e p r = unplain e p ∙ ap by (slotted_by other row r)

  pub seen_refused : is_compound (kind_of t) ≡ false → is_plain (kind_of t) ≡ false → row_of (kind_of t) (is_known bindings t) ≡ None →
      (kind_of t ≡ kinds.ArrowExpr → ⊥) →
      expr_seen bindings t place ≡ refused
  seen_refused e p r n = unplain e p ∙ ap by (refused_by (kind_of t) (is_known bindings t) r n)

-- ---- a default behind a type that is written or shown

module _ (bindings : Bindings) (b : Bool) (t : Tree) where
  abbrev typed_ident : Tree → Seen
  typed_ident type = written (without_default b (BindingIdent-id (AssignPat-left t)) type)

  abbrev ident_by : Option Tree → Seen
  ident_by o = seen_by o typed_ident (default_seen (AssignPat-span t) (Ident-span (BindingIdent-id (AssignPat-left t))) (AssignPat-left t)
      (expr_seen bindings (AssignPat-right t) (Some (Ident-span (BindingIdent-id (AssignPat-left t))))))

  pub seen_known : (type : Tree) → kind_of (AssignPat-left t) ≡ kinds.BindingIdent →
      type_of bindings.unresolved (default_typing t) ≡ Some type →
      assign_seen bindings (expr_seen bindings) b t ≡ written (without_default b (BindingIdent-id (AssignPat-left t)) type)
  seen_known type e d = rw e (ap ident_by d)

  -- an identifier whose default is left out of what is known
  pub seen_left_out : kind_of (AssignPat-left t) ≡ kinds.BindingIdent → type_of bindings.unresolved (default_typing t) ≡ None →
      assign_seen bindings (expr_seen bindings) b t ≡ ident_by None
  seen_left_out e d = rw e (ap ident_by d)

  abbrev left : Tree
  left = AssignPat-left t

  -- array and object patterns without a written type
  pub seen_untyped_array : kind_of left ≡ kinds.ArrayPat → is_absent (ArrayPat-type_ann left) ≡ true →
      assign_seen bindings (expr_seen bindings) b t ≡
      default_seen (AssignPat-span t) (ArrayPat-span left) (emptied_array left) (expr_seen bindings (AssignPat-right t) None)
  seen_untyped_array e a = rw (e, a) refl

  pub seen_untyped_object : kind_of left ≡ kinds.ObjectPat → is_absent (ObjectPat-type_ann left) ≡ true →
      assign_seen bindings (expr_seen bindings) b t ≡
      default_seen (AssignPat-span t) (ObjectPat-span left) (emptied_object left) (expr_seen bindings (AssignPat-right t) None)
  seen_untyped_object e a = rw (e, a) refl

-- what is no tree is none
pub none_of : (o : Option Tree) → ((t : Tree) → o ≡ Some t → ⊥) → o ≡ None
none_of None without = refl
none_of (Some t) without = absurd (without t refl)

-- ---- patterns of other kinds

module _ (bindings : Bindings) (b : Bool) (t : Tree) where
  pub seen_by_kind : (k : Kind) → kind_of t ≡ k →
      pat_seen bindings (expr_seen bindings) b t ≡ pat_by_kind bindings (expr_seen bindings) k b t
  seen_by_kind k e = ap (λ k. pat_by_kind bindings (expr_seen bindings) k b t) e

  pub other_pat : (k : Kind) → (k ≡ kinds.BindingIdent → ⊥) → (k ≡ kinds.AssignPat → ⊥) → (k ≡ kinds.RestPat → ⊥) →
      (k ≡ kinds.ArrayPat → ⊥) →
      (k ≡ kinds.ObjectPat → ⊥) → pat_by_kind bindings (expr_seen bindings) k b t ≡ faulty UnsupportedDestructuring (range_of_node t)
  other_pat kinds.BindingIdent n1 n2 n3 n4 n5 = absurd (n1 refl)
  other_pat kinds.AssignPat n1 n2 n3 n4 n5 = absurd (n2 refl)
  other_pat kinds.RestPat n1 n2 n3 n4 n5 = absurd (n3 refl)
  other_pat kinds.ArrayPat n1 n2 n3 n4 n5 = absurd (n4 refl)
  other_pat kinds.ObjectPat n1 n2 n3 n4 n5 = absurd (n5 refl)
  other_pat _ n1 n2 n3 n4 n5 = refl
