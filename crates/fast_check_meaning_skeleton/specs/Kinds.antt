-- Kinds of which the grammar and agreement speak.
use Rattle.std.specs.Prelude.{Bool, true, false}
use Rattle.fast_check_tree_syntax.specs.declared.kind.Kind.{Kind}
use Rattle.fast_check_tree_syntax.specs.declared.kind.Kind.TheVariants as kinds

-- interfaces, type aliases and enums stand as they are written
abbrev pub is_standing : Kind → Bool
is_standing kinds.TsInterfaceDecl = true
is_standing kinds.TsTypeAliasDecl = true
is_standing kinds.TsEnumDecl = true
is_standing _ = false

-- what a default export may declare
abbrev pub is_default_decl : Kind → Bool
is_default_decl kinds.ClassExpr = true
is_default_decl kinds.FnExpr = true
is_default_decl kinds.TsInterfaceDecl = true
is_default_decl _ = false

-- the statements that are no declarations and no expressions
abbrev pub is_statement : Kind → Bool
is_statement kinds.BlockStmt = true
is_statement kinds.EmptyStmt = true
is_statement kinds.DebuggerStmt = true
is_statement kinds.WithStmt = true
is_statement kinds.ReturnStmt = true
is_statement kinds.LabeledStmt = true
is_statement kinds.BreakStmt = true
is_statement kinds.ContinueStmt = true
is_statement kinds.IfStmt = true
is_statement kinds.SwitchStmt = true
is_statement kinds.ThrowStmt = true
is_statement kinds.TryStmt = true
is_statement kinds.WhileStmt = true
is_statement kinds.DoWhileStmt = true
is_statement kinds.ForStmt = true
is_statement kinds.ForInStmt = true
is_statement kinds.ForOfStmt = true
is_statement _ = false
