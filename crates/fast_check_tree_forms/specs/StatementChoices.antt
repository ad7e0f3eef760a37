-- Written by forms/write.py from forms/forms.txt.
-- Which statement or declaration a node is, and which form stands in a part of one.
-- Each choice goes by the kind of the node: `Other` stands for a kind of none of its forms.
use Rattle.fast_check_tree_syntax.specs.declared.kind.Kind.{Kind}
use Rattle.fast_check_tree_syntax.specs.declared.kind.Kind.TheVariants as kinds
use Rattle.fast_check_tree_forms.specs.ExpressionChoices.{expr_of, if_expr}
use Rattle.fast_check_tree_forms.specs.PatternChoices.{pat_of, if_pat}
use Rattle.fast_check_tree_forms.specs.declared.statement_choices.Decl.{Decl}
use Rattle.fast_check_tree_forms.specs.declared.statement_choices.Stmt.{Stmt}
use Rattle.fast_check_tree_forms.specs.declared.statement_choices.VarDeclOrExpr.{VarDeclOrExpr}
use Rattle.fast_check_tree_forms.specs.declared.statement_choices.ForHead.{ForHead}
use Rattle.fast_check_tree_forms.specs.declared.statement_choices.TsNamespaceBody.{TsNamespaceBody}

-- A declaration.
abbrev pub decl_of : Kind → Decl
decl_of kinds.ClassDecl = Decl.Class
decl_of kinds.FnDecl = Decl.Fn
decl_of kinds.VarDecl = Decl.Var
decl_of kinds.UsingDecl = Decl.Using
decl_of kinds.TsInterfaceDecl = Decl.TsInterface
decl_of kinds.TsTypeAliasDecl = Decl.TsTypeAlias
decl_of kinds.TsEnumDecl = Decl.TsEnum
decl_of kinds.TsModuleDecl = Decl.TsModule
decl_of _ = Decl.Other

-- the first where it is one of these, else the second
abbrev pub if_decl : {A : Type 0} → Decl → A → A → A
if_decl Decl.Other one other = other
if_decl _ one other = one

-- A statement.
abbrev pub stmt_of : Kind → Stmt
stmt_of kinds.BlockStmt = Stmt.Block
stmt_of kinds.EmptyStmt = Stmt.Empty
stmt_of kinds.DebuggerStmt = Stmt.Debugger
stmt_of kinds.WithStmt = Stmt.With
stmt_of kinds.ReturnStmt = Stmt.Return
stmt_of kinds.LabeledStmt = Stmt.Labeled
stmt_of kinds.BreakStmt = Stmt.Break
stmt_of kinds.ContinueStmt = Stmt.Continue
stmt_of kinds.IfStmt = Stmt.If
stmt_of kinds.SwitchStmt = Stmt.Switch
stmt_of kinds.ThrowStmt = Stmt.Throw
stmt_of kinds.TryStmt = Stmt.Try
stmt_of kinds.WhileStmt = Stmt.While
stmt_of kinds.DoWhileStmt = Stmt.DoWhile
stmt_of kinds.ForStmt = Stmt.For
stmt_of kinds.ForInStmt = Stmt.ForIn
stmt_of kinds.ForOfStmt = Stmt.ForOf
stmt_of kinds.ExprStmt = Stmt.Expr
stmt_of kind = if_decl (decl_of kind) Stmt.Decl Stmt.Other

-- the first where it is one of these, else the second
abbrev pub if_stmt : {A : Type 0} → Stmt → A → A → A
if_stmt Stmt.Other one other = other
if_stmt _ one other = one

-- What stands first in the head of a `for`.
abbrev pub var_decl_or_expr_of : Kind → VarDeclOrExpr
var_decl_or_expr_of kinds.VarDecl = VarDeclOrExpr.VarDecl
var_decl_or_expr_of kind = if_expr (expr_of kind) VarDeclOrExpr.Expr VarDeclOrExpr.Other

-- What stands before `in` or `of` in the head of a `for`.
abbrev pub for_head_of : Kind → ForHead
for_head_of kinds.VarDecl = ForHead.VarDecl
for_head_of kinds.UsingDecl = ForHead.UsingDecl
for_head_of kind = if_pat (pat_of kind) ForHead.Pat ForHead.Other

-- The body of a namespace.
abbrev pub ts_namespace_body_of : Kind → TsNamespaceBody
ts_namespace_body_of kinds.TsModuleBlock = TsNamespaceBody.TsModuleBlock
ts_namespace_body_of kinds.TsNamespaceDecl = TsNamespaceBody.TsNamespaceDecl
ts_namespace_body_of _ = TsNamespaceBody.Other
