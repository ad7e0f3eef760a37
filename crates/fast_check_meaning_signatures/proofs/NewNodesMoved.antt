-- New nodes and moves: new nodes stay as they are, and what they are made round is moved.
use Rattle.std.proofs.Common.{◌≡◌, ℕ, Bool, true, false, ◌&&◌, List, [], ◌∷◌, map, refl, ap, ap₂, ◌∙◌, sym}
use Rattle.std.specs.Prelude.{codes, if◌then◌else◌}
use Rattle.fast_check_tree_syntax.specs.declared.kind.Kind.TheVariants.{TsTypeRef, TsKeywordType}
use Rattle.fast_check_tree_syntax.specs.declared.kind.Word.TheVariants.{TsVoidKeyword}
use Rattle.fast_check_tree_syntax.specs.declared.source.SyntaxContext.{SyntaxContext}
use Rattle.fast_check_tree_syntax.specs.declared.tree.Tree.{Tree}
use Rattle.fast_check_tree_syntax.specs.Shape.{◌is◌, parts, none_range, has_word}
use Rattle.fast_check_tree_syntax.specs.Moves.{Moves, Keeps, moved}
use Rattle.fast_check_tree_syntax.proofs.Moved.{node_moved, range_moved, none_moved, absent_moved, word_moved, flag_moved, text_moved}
use Rattle.fast_check_tree_syntax.proofs.Moved.{context_moved, kind_of_moved, part_moved, is_absent_moved, has_word_moved, range_of_moved}
use Rattle.fast_check_tree_forms_statements.specs.Statements.{return_stmt}
use Rattle.fast_check_tree_forms_types.specs.Types.{TsKeywordType-kind, TsTypeRef-type_name, TsTypeRef-type_params}
use Rattle.fast_check_tree_forms_types.specs.TypeParams.{TsTypeAnn-type_ann, TsTypeParamInstantiation-params}
use Rattle.fast_check_tree_helpers.specs.Builders.{ts_keyword_type, never_value, is_void_type}
use Rattle.fast_check_tree_helpers.specs.GlobalCalls.{is_global}
use Rattle.fast_check_tree_helpers.proofs.BuildersMoved.{ts_keyword_type_moved}
use Rattle.fast_check_tree_helpers.proofs.GlobalCallsMoved.{moved_scope, is_global_moved}
use Rattle.fast_check_meaning_signatures.proofs.MovedParts.{field_moved, items_moved_at}
use Rattle.fast_check_meaning_signatures.specs.NewNodes.{never_array, never_in_parens, never_array_in_parens, hash_private, empty_object_pat}
use Rattle.fast_check_meaning_signatures.specs.NewNodes.{new_block, returns_value, function_body, arrow_body, promise_of, is_one, is_promise}
use Rattle.fast_check_meaning_signatures.specs.NewNodes.{promised, void_or_promise_void, or_undefined, param_ident, any_param}

-- a choice of trees
pub either_moved : (m : Moves) (b : Bool) (x x' y y' : Tree) → x ≡ moved m x' → y ≡ moved m y' →
    (if b then x else y) ≡ moved m (if b then x' else y')
either_moved m true x x' y y' p q = p
either_moved m false x x' y y' p q = q

-- whether a type is `void`
pub is_void_type_moved : (m : Moves) (t : Tree) → is_void_type (moved m t) ≡ is_void_type t
is_void_type_moved m t =
    ap₂ (λ k b. (k is TsKeywordType) && b) (kind_of_moved m t)
    (ap (has_word TsVoidKeyword) (field_moved m TsKeywordType-kind _ (λ t. refl) t) ∙ has_word_moved m TsVoidKeyword (TsKeywordType-kind t))

pub returns_value_moved : (m : Moves) (t : Tree) → returns_value (moved m t) ≡ returns_value t
returns_value_moved m t =
    ap₂ (λ a v. if a then false else (if v then false else true)) (is_absent_moved m t)
    (ap is_void_type (field_moved m TsTypeAnn-type_ann _ (λ t. refl) t) ∙ is_void_type_moved m (TsTypeAnn-type_ann t))

one_moved : (m : Moves) (ts : List Tree) → is_one (map (moved m) ts) ≡ is_one ts
one_moved m [] = refl
one_moved m (t ∷ []) = refl
one_moved m (t ∷ u ∷ us) = refl

module _ (m : Moves) (ok : Keeps m) where
  pub never_array_moved : moved m never_array ≡ never_array
  never_array_moved = simp (node_moved, range_moved, none_moved m ok, word_moved)

  pub never_in_parens_moved : moved m never_in_parens ≡ never_in_parens
  never_in_parens_moved = simp (node_moved, range_moved, none_moved m ok, word_moved)

  pub never_array_in_parens_moved : moved m never_array_in_parens ≡ never_array_in_parens
  never_array_in_parens_moved = simp (node_moved, range_moved, none_moved m ok, word_moved)

  pub hash_private_moved : moved m hash_private ≡ hash_private
  hash_private_moved =
      simp (node_moved, range_moved, none_moved m ok, context_moved, text_moved, word_moved, flag_moved, absent_moved, ok.scope_zero)

  pub empty_object_pat_moved : moved m empty_object_pat ≡ empty_object_pat
  empty_object_pat_moved = simp (node_moved, range_moved, none_moved m ok)

  pub new_block_moved : (ts : List Tree) → moved m (new_block ts) ≡ new_block (map (moved m) ts)
  new_block_moved ts = simp (node_moved, range_moved, none_moved m ok, context_moved, ok.scope_zero)

  -- `{}` and `{ return {} as never; }`
  empty_block_moved : moved m (new_block []) ≡ new_block []
  empty_block_moved = new_block_moved []

  never_block_moved : moved m (new_block (return_stmt none_range never_value ∷ [])) ≡ new_block (return_stmt none_range never_value ∷ [])
  never_block_moved = simp (node_moved, range_moved, none_moved m ok, context_moved, word_moved, ok.scope_zero)

  pub function_body_moved : (t : Tree) → function_body (moved m t) ≡ moved m (function_body t)
  function_body_moved t =
      ap (λ b. if b then new_block (return_stmt none_range never_value ∷ []) else new_block []) (returns_value_moved m t)
      ∙ either_moved m (returns_value t) _ _ _ _ (sym never_block_moved) (sym empty_block_moved)

  pub arrow_body_moved : (t : Tree) → arrow_body (moved m t) ≡ moved m (arrow_body t)
  arrow_body_moved t =
      ap (λ b. if b then never_in_parens else new_block []) (returns_value_moved m t)
      ∙ either_moved m (returns_value t) _ _ _ _ (sym never_in_parens_moved) (sym empty_block_moved)

  pub promise_of_moved : (t : Tree) → moved m (promise_of t) ≡ promise_of (moved m t)
  promise_of_moved t = simp (node_moved, range_moved, none_moved m ok, context_moved, flag_moved, text_moved, ok.scope_zero)

  pub is_promise_moved : (u : SyntaxContext) (t : Tree) → is_promise (moved_scope m u) (moved m t) ≡ is_promise u t
  is_promise_moved u t =
      ap₂ (λ k b. (k is TsTypeRef) && b) (kind_of_moved m t)
      (ap₂ ◌&&◌ (ap (is_global (codes "Promise") (moved_scope m u)) (field_moved m TsTypeRef-type_name _ (λ t. refl) t)
      ∙ is_global_moved m ok (codes "Promise") u (TsTypeRef-type_name t))
      (ap is_one (ap (λ p. parts (TsTypeParamInstantiation-params p)) (field_moved m TsTypeRef-type_params _ (λ t. refl) t)
      ∙ items_moved_at m TsTypeParamInstantiation-params _ (λ t. refl) (TsTypeRef-type_params t))
      ∙ one_moved m (parts (TsTypeParamInstantiation-params (TsTypeRef-type_params t)))))

  pub promised_moved : (u : SyntaxContext) (is_async : Bool) (t : Tree) →
      promised (moved_scope m u) is_async (moved m t) ≡ moved m (promised u is_async t)
  promised_moved u is_async t =
      ap (λ b. if is_async then (if b then moved m t else promise_of (moved m t)) else moved m t) (is_promise_moved u t)
      ∙ either_moved m is_async _ _ _ _ (either_moved m (is_promise u t) _ _ _ _ refl (sym (promise_of_moved t))) refl

  pub void_or_promise_void_moved : (is_async : Bool) → moved m (void_or_promise_void is_async) ≡ void_or_promise_void is_async
  void_or_promise_void_moved true = promise_of_moved (ts_keyword_type TsVoidKeyword) ∙
      ap promise_of (ts_keyword_type_moved m ok TsVoidKeyword)
  void_or_promise_void_moved false = ts_keyword_type_moved m ok TsVoidKeyword

  pub or_undefined_moved : (t : Tree) → or_undefined (moved m t) ≡ moved m (or_undefined t)
  or_undefined_moved t = simp (node_moved, range_moved, none_moved m ok, word_moved, part_moved, range_of_moved m ok)

  pub param_ident_moved : (place : ℕ) (optional : Bool) → moved m (param_ident place optional) ≡ param_ident place optional
  param_ident_moved place optional = simp (node_moved, range_moved, none_moved m ok, context_moved, flag_moved, text_moved, ok.scope_zero)

  pub any_param_moved : (place : ℕ) (is_rest : Bool) → moved m (any_param place is_rest) ≡ any_param place is_rest
  any_param_moved place true =
      simp (node_moved, range_moved, none_moved m ok, context_moved, flag_moved, text_moved, word_moved, absent_moved, ok.scope_zero)
  any_param_moved place false =
      simp (node_moved, range_moved, none_moved m ok, context_moved, flag_moved, text_moved, word_moved, ok.scope_zero)
