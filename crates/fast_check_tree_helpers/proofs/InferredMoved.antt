-- The inferred type of a moved value is the value's inferred type, moved.
use Rattle.std.proofs.Common.{◌≡◌, ℕ, Bool, true, false, Option, Some, None, List, [], ◌∷◌, map, refl, ap, ap₂, ◌∙◌, sym}
use Rattle.std.specs.Prelude.{if◌then◌else◌}
use Rattle.std.specs.Option.{option_map}
use Rattle.fast_check_tree_syntax.specs.declared.kind.Kind.{Kind}
use Rattle.fast_check_tree_syntax.specs.declared.kind.Kind.TheVariants as kinds
use Rattle.fast_check_tree_syntax.specs.declared.kind.Word.{Word}
use Rattle.fast_check_tree_syntax.specs.declared.kind.Word.TheVariants as words
use Rattle.fast_check_tree_syntax.specs.declared.source.SyntaxContext.{SyntaxContext}
use Rattle.fast_check_tree_syntax.specs.declared.tree.Tree.{Tree, Absent}
use Rattle.fast_check_tree_syntax.specs.Shape.{kind_of, none_range, parts, text_of, is_absent}
use Rattle.fast_check_tree_syntax.specs.Moves.{Moves, Keeps, moved}
use Rattle.fast_check_tree_syntax.proofs.Moved.{node_moved, range_moved, text_moved, absent_moved, none_moved, kind_of_moved, part_moved}
use Rattle.fast_check_tree_syntax.proofs.Moved.{parts_moved, is_absent_moved, text_of_moved}
use Rattle.fast_check_tree_forms_programs.specs.Literals.{str}
use Rattle.fast_check_tree_forms_expressions.specs.Templates.{Tpl-exprs}
use Rattle.fast_check_tree_forms_expressions.specs.Assertions.{TsAsExpr-type_ann, TsTypeAssertion-type_ann}
use Rattle.fast_check_tree_forms_expressions.specs.Calls.{CallExpr-args, CallExpr-callee}
use Rattle.fast_check_tree_helpers.specs.Places.{at-CallExpr-args, at-CallExpr-callee, at-Tpl-exprs, at-TsAsExpr-type_ann}
use Rattle.fast_check_tree_helpers.specs.Places.{at-TsTypeAssertion-type_ann}
use Rattle.fast_check_tree_helpers.specs.declared.literal_type.DeclMutabilityKind.{DeclMutabilityKind}
use Rattle.fast_check_tree_helpers.specs.declared.literal_type.DeclMutabilityKind.TheVariants.{Const, Mutable}
use Rattle.fast_check_tree_helpers.specs.Builders.{unique_symbol}
use Rattle.fast_check_tree_helpers.specs.GlobalCalls.{is_symbol_call}
use Rattle.fast_check_tree_helpers.specs.LiteralType.{literal_or_keyword, literal_by_kind, type_of_literal}
use Rattle.fast_check_tree_helpers.specs.TemplateType.{cooked_text, text_or_string, text_without, type_of_template}
use Rattle.fast_check_tree_helpers.specs.SimpleType.{is_simple_type}
use Rattle.fast_check_tree_helpers.specs.InferredType.{asserted_type, symbol_type, inferred_by_kind, inferred_form, inferred_type}
use Rattle.fast_check_tree_helpers.proofs.BuildersMoved.{ts_keyword_type_moved, ts_lit_type_moved, regex_type_moved, unique_symbol_moved}
use Rattle.fast_check_tree_helpers.proofs.GlobalCallsMoved.{moved_scope, is_symbol_call_moved}
use Rattle.fast_check_tree_helpers.proofs.SimpleTypesMoved.{is_simple_type_moved}
use Rattle.fast_check_tree_helpers.proofs.InferredTypes.{inferred_out, inferred_absent}
use Rattle.fast_check_tree_helpers.proofs.Levels.{moved_along}

pub chosen : (m : Moves) (b : Bool) (x x' y y' : Option Tree) → x ≡ option_map (moved m) x' → y ≡ option_map (moved m) y' →
    (if b then x else y) ≡ option_map (moved m) (if b then x' else y')
chosen m true x x' y y' p q = p
chosen m false x x' y y' p q = q

module _ (m : Moves) (ok : Keeps m) where
  literal_or_keyword_moved : (mutability : DeclMutabilityKind) (w : Word) (t : Tree) →
      literal_or_keyword mutability w (moved m t) ≡ moved m (literal_or_keyword mutability w t)
  literal_or_keyword_moved Const w t = sym (ts_lit_type_moved m ok t)
  literal_or_keyword_moved Mutable w t = sym (ts_keyword_type_moved m ok w)

  literal_by_kind_moved : (k : Kind) (mutability : DeclMutabilityKind) (t : Tree) →
      literal_by_kind k mutability (moved m t) ≡ option_map (moved m) (literal_by_kind k mutability t)
  literal_by_kind_moved kinds.Str mutability t = ap Some (literal_or_keyword_moved mutability words.TsStringKeyword t)
  literal_by_kind_moved kinds.Bool mutability t = ap Some (literal_or_keyword_moved mutability words.TsBooleanKeyword t)
  literal_by_kind_moved kinds.Number mutability t = ap Some (literal_or_keyword_moved mutability words.TsNumberKeyword t)
  literal_by_kind_moved kinds.BigInt mutability t = ap Some (literal_or_keyword_moved mutability words.TsBigIntKeyword t)
  literal_by_kind_moved kinds.Null mutability t = ap Some (sym (ts_keyword_type_moved m ok words.TsNullKeyword))
  literal_by_kind_moved kinds.Regex mutability t = ap Some (sym (regex_type_moved m ok))
  literal_by_kind_moved _ mutability t = refl

  pub type_of_literal_moved : (mutability : DeclMutabilityKind) (t : Tree) →
      type_of_literal mutability (moved m t) ≡ option_map (moved m) (type_of_literal mutability t)
  type_of_literal_moved mutability t =
      ap (λ k. literal_by_kind k mutability (moved m t)) (kind_of_moved m t) ∙ literal_by_kind_moved (kind_of t) mutability t

  text_type_moved : (text : List ℕ) → moved m (str none_range text Absent) ≡ str none_range text Absent
  text_type_moved text = simp (node_moved, range_moved, none_moved m ok, text_moved, absent_moved)

  either_moved : (b : Bool) (x y : Tree) → moved m x ≡ x → moved m y ≡ y → moved m (if b then x else y) ≡ (if b then x else y)
  either_moved true x y p q = p
  either_moved false x y p q = q

  text_or_string_moved : (t : Tree) → text_or_string (moved m t) ≡ moved m (text_or_string t)
  text_or_string_moved t =
      simp (is_absent_moved, text_of_moved) (sym (either_moved (is_absent t) _ _ (ts_keyword_type_moved m ok words.TsStringKeyword)
      (ts_lit_type_moved m ok (str none_range (text_of t) Absent) ∙ simp (text_type_moved))))

  text_without_moved : (ts : List Tree) (t : Tree) → text_without (map (moved m) ts) (moved m t) ≡ moved m (text_without ts t)
  text_without_moved [] t = refl
  text_without_moved (x ∷ xs) t = sym (absent_moved m)

  cooked_text_moved : (t : Tree) → cooked_text (moved m t) ≡ moved m (cooked_text t)
  cooked_text_moved t = simp (part_moved)

  pub type_of_template_moved : (mutability : DeclMutabilityKind) (t : Tree) →
      type_of_template mutability (moved m t) ≡ moved m (type_of_template mutability t)
  type_of_template_moved Const t =
      ap text_or_string (ap₂ text_without (ap parts (part_moved m at-Tpl-exprs.place t) ∙ parts_moved m (Tpl-exprs t)) (cooked_text_moved t)
      ∙ text_without_moved (parts (Tpl-exprs t)) (cooked_text t))
      ∙ text_or_string_moved (text_without (parts (Tpl-exprs t)) (cooked_text t))
  type_of_template_moved Mutable t = sym (ts_keyword_type_moved m ok words.TsStringKeyword)

  pub asserted_type_moved : (t : Tree) → asserted_type (moved m t) ≡ option_map (moved m) (asserted_type t)
  asserted_type_moved t = ap (λ b. if b then Some (moved m t) else None) (is_simple_type_moved m t) ∙
      chosen m (is_simple_type t) _ _ _ _ refl refl

  pub symbol_type_moved : (u : SyntaxContext) (callee args : Tree) →
      symbol_type (moved_scope m u) (moved m callee) (moved m args) ≡ option_map (moved m) (symbol_type u callee args)
  symbol_type_moved u callee args =
      ap (λ b. if b then Some unique_symbol else None) (is_symbol_call_moved m ok u callee args)
      ∙ chosen m (is_symbol_call u callee args) _ _ _ _ (ap Some (sym (unique_symbol_moved m ok))) refl

  module _ (mutability : DeclMutabilityKind) (u : SyntaxContext) where
    by_kind_moved : (k : Kind) (t : Tree) (inside : ℕ → Option Tree) →
        inferred_by_kind k mutability (moved_scope m u) (moved m t) (λ i. option_map (moved m) (inside i))
        ≡ option_map (moved m) (inferred_by_kind k mutability u t inside)
    by_kind_moved kinds.TsAsExpr t inside =
        ap asserted_type (part_moved m at-TsAsExpr-type_ann.place t) ∙ asserted_type_moved (TsAsExpr-type_ann t)
    by_kind_moved kinds.TsTypeAssertion t inside =
        ap asserted_type (part_moved m at-TsTypeAssertion-type_ann.place t) ∙ asserted_type_moved (TsTypeAssertion-type_ann t)
    by_kind_moved kinds.CallExpr t inside =
        ap₂ (symbol_type (moved_scope m u)) (part_moved m at-CallExpr-callee.place t) (part_moved m at-CallExpr-args.place t)
        ∙ symbol_type_moved u (CallExpr-callee t) (CallExpr-args t)
    by_kind_moved kinds.Tpl t inside = ap Some (type_of_template_moved mutability t)
    by_kind_moved kinds.ParenExpr t inside = refl
    by_kind_moved kinds.TsSatisfiesExpr t inside = refl
    by_kind_moved _ t inside = type_of_literal_moved mutability t

    pub inferred_type_moved : (t : Tree) → inferred_type mutability (moved_scope m u) (moved m t) ≡ option_map (moved m)
        (inferred_type mutability u t)
    inferred_type_moved = moved_along m (option_map (moved m)) (inferred_type mutability (moved_scope m u)) (inferred_type mutability u)
        (inferred_form mutability (moved_scope m u)) (inferred_form mutability u)
        (inferred_out mutability (moved_scope m u)) (inferred_out mutability u)
        (inferred_absent mutability (moved_scope m u) ∙ ap (option_map (moved m)) (sym (inferred_absent mutability u)))
        (λ t inside each. ap (λ k. inferred_by_kind k mutability (moved_scope m u) (moved m t) (λ i. option_map (moved m) (inside i)))
        (kind_of_moved m t)
        ∙ by_kind_moved (kind_of t) t inside)
