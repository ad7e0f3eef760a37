-- The type that a moved body names is the one that the body names, moved.
use Rattle.std.proofs.Common.{◌≡◌, ℕ, Bool, Option, Some, None, List, [], ◌∷◌, map, refl, ap, ap₂, is_some, if◌then◌else◌, ◌∙◌}
use Rattle.std.specs.Option.{option_map}
use Rattle.fast_check_tree_syntax.specs.declared.kind.Kind.{Kind}
use Rattle.fast_check_tree_syntax.specs.declared.kind.Kind.TheVariants.{ReturnStmt}
use Rattle.fast_check_tree_syntax.specs.declared.kind.Kind.TheVariants as kinds
use Rattle.fast_check_tree_syntax.specs.declared.source.SyntaxContext.{SyntaxContext}
use Rattle.fast_check_tree_syntax.specs.declared.tree.Tree.{Tree}
use Rattle.fast_check_tree_syntax.specs.Shape.{◌is◌, kind_of, parts, is_absent}
use Rattle.fast_check_tree_syntax.specs.Moves.{Moves, Keeps, moved}
use Rattle.fast_check_tree_syntax.proofs.Moved.{kind_of_moved, part_moved, parts_moved, is_absent_moved}
use Rattle.fast_check_tree_forms_statements.specs.Statements.{ReturnStmt-arg, BlockStmt-stmts}
use Rattle.fast_check_tree_helpers.specs.Places.{at-BlockStmt-stmts}
use Rattle.fast_check_tree_helpers.specs.declared.literal_type.DeclMutabilityKind.TheVariants.{Mutable}
use Rattle.fast_check_tree_helpers.specs.LiteralType.{type_of_literal}
use Rattle.fast_check_tree_helpers.specs.NamedBodies.{return_arg, returns_nowhere, is_empty, arg_of_last, single_return_arg, names_by_kind}
use Rattle.fast_check_tree_helpers.specs.NamedBodies.{names_form, names_type, named_by, named_return}
use Rattle.fast_check_tree_helpers.proofs.GlobalCallsMoved.{moved_scope}
use Rattle.fast_check_tree_helpers.proofs.InferredMoved.{chosen, type_of_literal_moved, inferred_type_moved}
use Rattle.fast_check_tree_helpers.proofs.Levels.{moved_stays}
use Rattle.fast_check_tree_helpers.proofs.Named.{names_out}
use Rattle.fast_check_tree_helpers.proofs.ReturnsMoved.{returns_moved}

is_some_moved : (m : Moves) (found : Option Tree) → is_some (option_map (moved m) found) ≡ is_some found
is_some_moved m (Some t) = refl
is_some_moved m None = refl

module _ (m : Moves) (ok : Keeps m) where
  literal_moved : (t : Tree) → is_some (type_of_literal Mutable (moved m t)) ≡ is_some (type_of_literal Mutable t)
  literal_moved t = ap is_some (type_of_literal_moved m ok Mutable t) ∙ is_some_moved m (type_of_literal Mutable t)

  by_kind_moved : (k : Kind) (t : Tree) (inside : ℕ → Bool) → names_by_kind k (moved m t) inside ≡ names_by_kind k t inside
  by_kind_moved kinds.TsAsExpr t inside = refl
  by_kind_moved kinds.TsTypeAssertion t inside = refl
  by_kind_moved kinds.Tpl t inside = refl
  by_kind_moved kinds.ParenExpr t inside = refl
  by_kind_moved kinds.TsSatisfiesExpr t inside = refl
  by_kind_moved _ t inside = literal_moved t

  pub names_type_moved : (t : Tree) → names_type (moved m t) ≡ names_type t
  names_type_moved = moved_stays m names_type names_form names_out
      (λ t inside each. ap (λ k. names_by_kind k (moved m t) inside) (kind_of_moved m t) ∙ by_kind_moved (kind_of t) t inside)

  arg_moved : (t : Tree) → ReturnStmt-arg (moved m t) ≡ moved m (ReturnStmt-arg t)
  arg_moved t = part_moved m _ t

  return_arg_moved : (t : Tree) → return_arg (moved m t) ≡ option_map (moved m) (return_arg t)
  return_arg_moved t =
      let arg = ReturnStmt-arg t in
      (λ i. if kind_of_moved m t i is ReturnStmt then (if is_absent (arg_moved t i) then None else Some (arg_moved t i)) else None)
      ∙ chosen m (kind_of t is ReturnStmt) _ _ _ _
      (ap (λ b. if b then None else Some (moved m arg)) (is_absent_moved m arg) ∙ chosen m (is_absent arg) _ _ _ _ refl refl) refl

  arg_of_last_moved : (ts : List Tree) → arg_of_last (map (moved m) ts) ≡ option_map (moved m) (arg_of_last ts)
  arg_of_last_moved [] = refl
  arg_of_last_moved (t ∷ []) = return_arg_moved t
  arg_of_last_moved (t ∷ u ∷ us) =
      ap (λ rs. if is_empty rs then arg_of_last (map (moved m) (u ∷ us)) else None) (returns_moved m t)
      ∙ chosen m (returns_nowhere t) _ _ _ _ (arg_of_last_moved (u ∷ us)) refl

  pub single_return_arg_moved : (t : Tree) → single_return_arg (moved m t) ≡ option_map (moved m) (single_return_arg t)
  single_return_arg_moved t =
      ap arg_of_last (ap parts (part_moved m at-BlockStmt-stmts.place t) ∙ parts_moved m (BlockStmt-stmts t)) ∙
      arg_of_last_moved (parts (BlockStmt-stmts t))

  named_by_moved : (u : SyntaxContext) (arg : Option Tree) →
      named_by (moved_scope m u) (option_map (moved m) arg) ≡ option_map (moved m) (named_by u arg)
  named_by_moved u (Some arg) =
      ap₂ (λ b shown. if b then shown else None) (names_type_moved arg) (inferred_type_moved m ok Mutable u arg)
      ∙ chosen m (names_type arg) _ _ _ _ refl refl
  named_by_moved u None = refl

  pub named_return_moved : (u : SyntaxContext) (is_generator : Bool) (t : Tree) →
      named_return (moved_scope m u) is_generator (moved m t) ≡ option_map (moved m) (named_return u is_generator t)
  named_return_moved u is_generator t =
      chosen m is_generator _ _ _ _ refl
      (ap (named_by (moved_scope m u)) (single_return_arg_moved t) ∙ named_by_moved u (single_return_arg t))
