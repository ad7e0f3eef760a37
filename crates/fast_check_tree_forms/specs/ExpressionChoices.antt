-- Written by forms/write.py from forms/forms.txt.
-- Which expression a node is, and which form stands in a part of one.
-- Each choice goes by the kind of the node: `Other` stands for a kind of none of its forms.
use Rattle.fast_check_tree_syntax.specs.declared.kind.Kind.{Kind}
use Rattle.fast_check_tree_syntax.specs.declared.kind.Kind.TheVariants as kinds
use Rattle.fast_check_tree_forms.specs.NameChoices.{lit_of, if_lit}
use Rattle.fast_check_tree_forms.specs.declared.expression_choices.Expr.{Expr}
use Rattle.fast_check_tree_forms.specs.declared.expression_choices.BlockStmtOrExpr.{BlockStmtOrExpr}
use Rattle.fast_check_tree_forms.specs.declared.expression_choices.OptChainBase.{OptChainBase}
use Rattle.fast_check_tree_forms.specs.declared.expression_choices.Callee.{Callee}

-- An expression.
abbrev pub expr_of : Kind → Expr
expr_of kinds.ThisExpr = Expr.This
expr_of kinds.ArrayLit = Expr.Array
expr_of kinds.ObjectLit = Expr.Object
expr_of kinds.FnExpr = Expr.Fn
expr_of kinds.UnaryExpr = Expr.Unary
expr_of kinds.UpdateExpr = Expr.Update
expr_of kinds.BinExpr = Expr.Bin
expr_of kinds.AssignExpr = Expr.Assign
expr_of kinds.MemberExpr = Expr.Member
expr_of kinds.SuperPropExpr = Expr.SuperProp
expr_of kinds.CondExpr = Expr.Cond
expr_of kinds.CallExpr = Expr.Call
expr_of kinds.NewExpr = Expr.New
expr_of kinds.SeqExpr = Expr.Seq
expr_of kinds.Ident = Expr.Ident
expr_of kinds.Tpl = Expr.Tpl
expr_of kinds.TaggedTpl = Expr.TaggedTpl
expr_of kinds.ArrowExpr = Expr.Arrow
expr_of kinds.ClassExpr = Expr.Class
expr_of kinds.YieldExpr = Expr.Yield
expr_of kinds.MetaPropExpr = Expr.MetaProp
expr_of kinds.AwaitExpr = Expr.Await
expr_of kinds.ParenExpr = Expr.Paren
expr_of kinds.JSXMember = Expr.JSXMember
expr_of kinds.JSXNamespacedName = Expr.JSXNamespacedName
expr_of kinds.JSXEmpty = Expr.JSXEmpty
expr_of kinds.JSXElement = Expr.JSXElement
expr_of kinds.JSXFragment = Expr.JSXFragment
expr_of kinds.TsTypeAssertion = Expr.TsTypeAssertion
expr_of kinds.TsConstAssertion = Expr.TsConstAssertion
expr_of kinds.TsNonNullExpr = Expr.TsNonNull
expr_of kinds.TsAsExpr = Expr.TsAs
expr_of kinds.TsInstantiation = Expr.TsInstantiation
expr_of kinds.TsSatisfiesExpr = Expr.TsSatisfies
expr_of kinds.PrivateName = Expr.PrivateName
expr_of kinds.OptChainExpr = Expr.OptChain
expr_of kinds.Invalid = Expr.Invalid
expr_of kind = if_lit (lit_of kind) Expr.Lit Expr.Other

-- the first where it is one of these, else the second
abbrev pub if_expr : {A : Type 0} → Expr → A → A → A
if_expr Expr.Other one other = other
if_expr _ one other = one

-- The body of an arrow function.
abbrev pub block_stmt_or_expr_of : Kind → BlockStmtOrExpr
block_stmt_or_expr_of kinds.BlockStmt = BlockStmtOrExpr.BlockStmt
block_stmt_or_expr_of kind = if_expr (expr_of kind) BlockStmtOrExpr.Expr BlockStmtOrExpr.Other

-- What an optional chain ends with.
abbrev pub opt_chain_base_of : Kind → OptChainBase
opt_chain_base_of kinds.MemberExpr = OptChainBase.Member
opt_chain_base_of kinds.OptCall = OptChainBase.Call
opt_chain_base_of _ = OptChainBase.Other

-- What is called.
abbrev pub callee_of : Kind → Callee
callee_of kinds.Super = Callee.Super
callee_of kinds.Import = Callee.Import
callee_of kind = if_expr (expr_of kind) Callee.Expr Callee.Other
