-- Written by forms/write.py from forms/forms.txt.
-- What a choice is where its own kinds are ruled out: another choice, asked next.
use Rattle.std.specs.Prelude.{◌≡◌, refl}
use Rattle.fast_check_tree_syntax.specs.declared.kind.Kind.{Kind}
use Rattle.fast_check_tree_syntax.specs.declared.kind.Kind.TheVariants as kinds
use Rattle.fast_check_tree_forms.specs.ExpressionChoices.{block_stmt_or_expr_of, expr_of, if_expr, callee_of}
use Rattle.fast_check_tree_forms.specs.PatternChoices.{assign_target_of, pat_of, if_pat, prop_or_spread_of, prop_of, if_prop}
use Rattle.fast_check_tree_forms.specs.StatementChoices.{var_decl_or_expr_of, for_head_of}
use Rattle.fast_check_tree_forms.specs.NameChoices.{key_of, prop_name_of, if_prop_name}
use Rattle.fast_check_tree_forms.specs.declared.expression_choices.BlockStmtOrExpr.{BlockStmtOrExpr}
use Rattle.fast_check_tree_forms.specs.declared.expression_choices.Callee.{Callee}
use Rattle.fast_check_tree_forms.specs.declared.pattern_choices.AssignTarget.{AssignTarget}
use Rattle.fast_check_tree_forms.specs.declared.statement_choices.VarDeclOrExpr.{VarDeclOrExpr}
use Rattle.fast_check_tree_forms.specs.declared.statement_choices.ForHead.{ForHead}
use Rattle.fast_check_tree_forms.specs.declared.pattern_choices.PropOrSpread.{PropOrSpread}
use Rattle.fast_check_tree_forms.specs.declared.name_choices.Key.{Key}
use Rattle.fast_check_tree_forms.specs.declared.expression_choices.Expr.{Expr}
use Rattle.fast_check_tree_forms.specs.declared.pattern_choices.Pat.{Pat}
use Rattle.fast_check_tree_forms.specs.declared.pattern_choices.Prop.{Prop}
use Rattle.fast_check_tree_forms.specs.declared.name_choices.PropName.{PropName}

pub is_expr : {A : Type 0} (this : Expr) (one other : A) → (this ≡ Expr.Other → ⊥) → if_expr this one other ≡ one
is_expr Expr.Other one other known = absurd (known refl)
is_expr _ one other known = refl

pub is_pat : {A : Type 0} (this : Pat) (one other : A) → (this ≡ Pat.Other → ⊥) → if_pat this one other ≡ one
is_pat Pat.Other one other known = absurd (known refl)
is_pat _ one other known = refl

pub is_prop : {A : Type 0} (this : Prop) (one other : A) → (this ≡ Prop.Other → ⊥) → if_prop this one other ≡ one
is_prop Prop.Other one other known = absurd (known refl)
is_prop _ one other known = refl

pub is_prop_name : {A : Type 0} (this : PropName) (one other : A) → (this ≡ PropName.Other → ⊥) → if_prop_name this one other ≡ one
is_prop_name PropName.Other one other known = absurd (known refl)
is_prop_name _ one other known = refl

pub block_stmt_or_expr_else : (kind : Kind) → (kind ≡ kinds.BlockStmt → ⊥) →
    block_stmt_or_expr_of kind ≡ if_expr (expr_of kind) BlockStmtOrExpr.Expr BlockStmtOrExpr.Other
block_stmt_or_expr_else kinds.BlockStmt own = absurd (own refl)
block_stmt_or_expr_else _ _ = refl

pub callee_else : (kind : Kind) → (kind ≡ kinds.Super → ⊥) → (kind ≡ kinds.Import → ⊥) →
    callee_of kind ≡ if_expr (expr_of kind) Callee.Expr Callee.Other
callee_else kinds.Super own _ = absurd (own refl)
callee_else kinds.Import _ own = absurd (own refl)
callee_else _ _ _ = refl

pub assign_target_else : (kind : Kind) → (kind ≡ kinds.TargetPat → ⊥) →
    assign_target_of kind ≡ if_expr (expr_of kind) AssignTarget.Simple AssignTarget.Other
assign_target_else kinds.TargetPat own = absurd (own refl)
assign_target_else _ _ = refl

pub var_decl_or_expr_else : (kind : Kind) → (kind ≡ kinds.VarDecl → ⊥) →
    var_decl_or_expr_of kind ≡ if_expr (expr_of kind) VarDeclOrExpr.Expr VarDeclOrExpr.Other
var_decl_or_expr_else kinds.VarDecl own = absurd (own refl)
var_decl_or_expr_else _ _ = refl

pub for_head_else : (kind : Kind) → (kind ≡ kinds.VarDecl → ⊥) → (kind ≡ kinds.UsingDecl → ⊥) →
    for_head_of kind ≡ if_pat (pat_of kind) ForHead.Pat ForHead.Other
for_head_else kinds.VarDecl own _ = absurd (own refl)
for_head_else kinds.UsingDecl _ own = absurd (own refl)
for_head_else _ _ _ = refl

pub prop_or_spread_else : (kind : Kind) → (kind ≡ kinds.SpreadElement → ⊥) →
    prop_or_spread_of kind ≡ if_prop (prop_of kind) PropOrSpread.Prop PropOrSpread.Other
prop_or_spread_else kinds.SpreadElement own = absurd (own refl)
prop_or_spread_else _ _ = refl

pub key_else : (kind : Kind) → (kind ≡ kinds.PrivateName → ⊥) →
    key_of kind ≡ if_prop_name (prop_name_of kind) Key.Public Key.Other
key_else kinds.PrivateName own = absurd (own refl)
key_else _ _ = refl
