-- What stands of a rest and of a default is what stood of them, moved.
use Rattle.std.specs.Prelude.{◌≡◌, Bool, true, false, refl}
use Rattle.std.proofs.Common.{ap, ◌∙◌, sym}
use Rattle.fast_check_tree_syntax.specs.declared.kind.Kind.{Kind}
use Rattle.fast_check_tree_syntax.specs.declared.kind.Kind.TheVariants as kinds
use Rattle.fast_check_tree_syntax.specs.declared.tree.Tree.{Tree}
use Rattle.fast_check_tree_syntax.specs.Shape.{kind_of}
use Rattle.fast_check_tree_syntax.specs.Moves.{Moves, Keeps, moved}
use Rattle.fast_check_tree_syntax.proofs.Moved.{node_moved, range_moved, flag_moved, text_moved, context_moved, kind_of_moved, part_moved}
use Rattle.fast_check_tree_syntax.proofs.Moved.{flag_of_moved, text_of_moved, range_of_moved}
use Rattle.fast_check_tree_helpers.proofs.GlobalCallsMoved.{context_of_moved}
use Rattle.fast_check_meaning_signatures.specs.Parameters.{emptied_array, emptied_object, arg_by_kind, rest_arg, with_optional, without_default}
use Rattle.fast_check_meaning_signatures.proofs.NewNodesMoved.{empty_object_pat_moved, or_undefined_moved}

module _ (m : Moves) (ok : Keeps m) where
  emptied_array_moved : (pat : Tree) → emptied_array (moved m pat) ≡ moved m (emptied_array pat)
  emptied_array_moved pat = simp (node_moved, range_moved, flag_moved, part_moved, range_of_moved m ok, flag_of_moved)

  emptied_object_moved : (pat : Tree) → emptied_object (moved m pat) ≡ moved m (emptied_object pat)
  emptied_object_moved pat = simp (node_moved, range_moved, flag_moved, part_moved, range_of_moved m ok, flag_of_moved)

  -- ---- rests

  arg_moved : (kind : Kind) (arg : Tree) → arg_by_kind kind (moved m arg) ≡ moved m (arg_by_kind kind arg)
  arg_moved kinds.ArrayPat arg = emptied_array_moved arg
  arg_moved kinds.ObjectPat arg = emptied_object_moved arg
  arg_moved kinds.RestPat arg = sym (empty_object_pat_moved m ok)
  arg_moved kinds.AssignPat arg = sym (empty_object_pat_moved m ok)
  arg_moved kinds.PatExpr arg = sym (empty_object_pat_moved m ok)
  arg_moved _ arg = refl

  pub rest_arg_moved : (arg : Tree) → rest_arg (moved m arg) ≡ moved m (rest_arg arg)
  rest_arg_moved arg = ap (λ k. arg_by_kind k (moved m arg)) (kind_of_moved m arg) ∙ arg_moved (kind_of arg) arg

  -- ---- defaults

  with_optional_moved : (optional : Bool) (id : Tree) → with_optional optional (moved m id) ≡ moved m (with_optional optional id)
  with_optional_moved optional id =
      simp (
        node_moved,
        range_moved,
        context_moved,
        text_moved,
        flag_moved,
        part_moved,
        range_of_moved m ok,
        context_of_moved m ok,
        text_of_moved,
      )

  pub without_default_moved : (is_optional : Bool) (id type : Tree) →
      without_default is_optional (moved m id) (moved m type) ≡ moved m (without_default is_optional id type)
  without_default_moved true id type = simp (with_optional_moved, node_moved)
  without_default_moved false id type = simp (with_optional_moved, or_undefined_moved m ok, node_moved)
