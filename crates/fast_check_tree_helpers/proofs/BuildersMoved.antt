-- New nodes have no positions and no scope: a move leaves them as they are, and moves what they are made round.
use Rattle.std.proofs.Common.{◌≡◌}
use Rattle.fast_check_tree_syntax.specs.declared.kind.Word.{Word}
use Rattle.fast_check_tree_syntax.specs.declared.tree.Tree.{Tree}
use Rattle.fast_check_tree_syntax.specs.Moves.{Moves, Keeps, moved}
use Rattle.fast_check_tree_syntax.proofs.Moved.{node_moved, absent_moved, flag_moved, word_moved, text_moved, context_moved, range_moved}
use Rattle.fast_check_tree_syntax.proofs.Moved.{none_moved}
use Rattle.fast_check_tree_helpers.specs.Builders.{ts_keyword_type, ts_lit_type, type_ann, regex_type, never_value, any_type_ann, ts_readonly}
use Rattle.fast_check_tree_helpers.specs.Builders.{ts_tuple_element, unique_symbol}

module _ (m : Moves) (ok : Keeps m) where
  pub ts_keyword_type_moved : (w : Word) → moved m (ts_keyword_type w) ≡ ts_keyword_type w
  ts_keyword_type_moved w = simp (node_moved, range_moved, none_moved m ok, word_moved)

  pub ts_lit_type_moved : (t : Tree) → moved m (ts_lit_type t) ≡ ts_lit_type (moved m t)
  ts_lit_type_moved t = simp (node_moved, range_moved, none_moved m ok)

  pub type_ann_moved : (t : Tree) → moved m (type_ann t) ≡ type_ann (moved m t)
  type_ann_moved t = simp (node_moved, range_moved, none_moved m ok)

  pub any_type_ann_moved : moved m any_type_ann ≡ any_type_ann
  any_type_ann_moved = simp (node_moved, range_moved, none_moved m ok, word_moved)

  pub ts_readonly_moved : (t : Tree) → moved m (ts_readonly t) ≡ ts_readonly (moved m t)
  ts_readonly_moved t = simp (node_moved, range_moved, none_moved m ok, word_moved)

  pub ts_tuple_element_moved : (t : Tree) → moved m (ts_tuple_element t) ≡ ts_tuple_element (moved m t)
  ts_tuple_element_moved t = simp (node_moved, range_moved, none_moved m ok, absent_moved)

  pub regex_type_moved : moved m regex_type ≡ regex_type
  regex_type_moved = simp (node_moved, range_moved, none_moved m ok, absent_moved, flag_moved, text_moved, context_moved, ok.scope_zero)

  pub unique_symbol_moved : moved m unique_symbol ≡ unique_symbol
  unique_symbol_moved =
      simp (node_moved, range_moved, none_moved m ok, absent_moved, flag_moved, text_moved, context_moved, word_moved, ok.scope_zero)

  pub never_value_moved : moved m never_value ≡ never_value
  never_value_moved = simp (node_moved, range_moved, none_moved m ok, word_moved)
