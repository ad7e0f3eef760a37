-- Statements that call the superclass, and parameters without modifiers.
use Rattle.std.specs.Prelude.{◌≡◌, Bool, true, false, ◌&&◌, [], map, if◌then◌else◌}
use Rattle.std.proofs.Common.{ap, sym}
use Rattle.fast_check_tree_syntax.specs.declared.kind.Kind.TheVariants as kinds
use Rattle.fast_check_tree_syntax.specs.declared.tree.Tree.{Tree}
use Rattle.fast_check_tree_syntax.specs.Shape.{◌is◌, kind_of, parts, list}
use Rattle.fast_check_tree_forms_classes.specs.Classes.{TsParamProp-span, TsParamProp-param}
use Rattle.fast_check_tree_forms_classes.specs.Functions.{param}
use Rattle.fast_check_tree_forms_expressions.specs.Calls.{call_expr, CallExpr-span, CallExpr-ctxt, CallExpr-callee, CallExpr-args}
use Rattle.fast_check_tree_forms_expressions.specs.Calls.{CallExpr-type_args}
use Rattle.fast_check_tree_forms_statements.specs.Statements.{ExprStmt-expr}
use Rattle.fast_check_meaning_signatures.specs.Classes.{plain_param, is_super_call, never_argument}

abbrev pub never_call : Tree → Tree
never_call call =
    call_expr (CallExpr-span call) (CallExpr-ctxt call) (CallExpr-callee call)
    (list (map (λ a. never_argument a) (parts (CallExpr-args call))))
    (CallExpr-type_args call)

module _ (s : Tree) where
  abbrev call_if : Bool → Bool → Bool
  call_if statement call = statement && (call && (kind_of (CallExpr-callee (ExprStmt-expr s)) is kinds.Super))

  pub no_statement : kind_of s is kinds.ExprStmt ≡ false → false ≡ is_super_call s
  no_statement e = sym (ap (λ b. call_if b (kind_of (ExprStmt-expr s) is kinds.CallExpr)) e)

  pub no_call : kind_of s is kinds.ExprStmt ≡ true → kind_of (ExprStmt-expr s) is kinds.CallExpr ≡ false → false ≡ is_super_call s
  no_call e f = sym (λ i. call_if (e i) (f i))

  pub call_by_callee : kind_of s is kinds.ExprStmt ≡ true → kind_of (ExprStmt-expr s) is kinds.CallExpr ≡ true →
      kind_of (CallExpr-callee (ExprStmt-expr s)) is kinds.Super ≡ is_super_call s
  call_by_callee e f = sym (λ i. call_if (e i) (f i))

module _ (p : Tree) where
  abbrev plain_if : Bool → Tree
  plain_if b = if b then param (TsParamProp-span p) (list []) (TsParamProp-param p) else p

  pub plain_property : kind_of p is kinds.TsParamProp ≡ true → param (TsParamProp-span p) (list []) (TsParamProp-param p) ≡ plain_param p
  plain_property e = sym (ap plain_if e)

  pub plain_already : kind_of p is kinds.TsParamProp ≡ false → p ≡ plain_param p
  plain_already e = sym (ap plain_if e)
