-- How a function's body returns.
use Rattle.std.specs.Prelude.{ℕ, Bool, false, not, ◌&&◌, List, [], ◌∷◌, if◌then◌else◌}
use Rattle.std.specs.List.{list_all, flat_map}
use Rattle.fast_check_tree_syntax.specs.declared.kind.Kind.{Kind}
use Rattle.fast_check_tree_syntax.specs.declared.kind.Kind.TheVariants as kinds
use Rattle.fast_check_tree_syntax.specs.declared.tree.Tree.{Tree}
use Rattle.fast_check_tree_syntax.specs.Shape.{kind_of, parts, is_absent}
use Rattle.fast_check_tree_syntax.specs.Recursion.{by_form}
use Rattle.fast_check_tree_forms_statements.specs.Statements.{ReturnStmt-arg, BlockStmt-stmts}
use Rattle.fast_check_tree_helpers.specs.Places.{at-BlockStmt-stmts, at-WithStmt-body, at-LabeledStmt-body, at-IfStmt-cons}
use Rattle.fast_check_tree_helpers.specs.Places.{at-IfStmt-alt, at-SwitchStmt-cases, at-SwitchCase-cons, at-TryStmt-block}
use Rattle.fast_check_tree_helpers.specs.Places.{at-TryStmt-handler, at-TryStmt-finalizer, at-CatchClause-body}
use Rattle.fast_check_tree_helpers.specs.Places.{at-WhileStmt-body, at-DoWhileStmt-body, at-ForStmt-body, at-ForInStmt-body}
use Rattle.fast_check_tree_helpers.specs.Places.{at-ForOfStmt-body}
use Rattle.fast_check_tree_helpers.specs.declared.return_class.ReturnStatementAnalysis.{ReturnStatementAnalysis}
use Rattle.fast_check_tree_helpers.specs.declared.return_class.ReturnStatementAnalysis.TheVariants as class

-- The fields of a statement in which further statements stand, by their places in text order. So return statements are
-- reached through blocks, `with`, labels, both branches of `if`, the cases of `switch`, the three parts of `try`, and
-- loops. Expressions and declarations, and with them nested functions, are not entered.
abbrev pub entered : Kind → List ℕ
entered kinds.BlockStmt = at-BlockStmt-stmts.place ∷ []
entered kinds.WithStmt = at-WithStmt-body.place ∷ []
entered kinds.LabeledStmt = at-LabeledStmt-body.place ∷ []
entered kinds.IfStmt = at-IfStmt-cons.place ∷ at-IfStmt-alt.place ∷ []
entered kinds.SwitchStmt = at-SwitchStmt-cases.place ∷ []
entered kinds.SwitchCase = at-SwitchCase-cons.place ∷ []
entered kinds.TryStmt = at-TryStmt-block.place ∷ at-TryStmt-handler.place ∷ at-TryStmt-finalizer.place ∷ []
entered kinds.CatchClause = at-CatchClause-body.place ∷ []
entered kinds.WhileStmt = at-WhileStmt-body.place ∷ []
entered kinds.DoWhileStmt = at-DoWhileStmt-body.place ∷ []
entered kinds.ForStmt = at-ForStmt-body.place ∷ []
entered kinds.ForInStmt = at-ForInStmt-body.place ∷ []
entered kinds.ForOfStmt = at-ForOfStmt-body.place ∷ []
entered _ = []

-- The return statements reached from a statement, in text order: of each, whether it has an argument.
-- `inside` has those of the part at a place, `each` those of each part of a list of statements.
abbrev pub returns_by_kind : Kind → Tree → (ℕ → List Bool) → List (List Bool) → List Bool
returns_by_kind kinds.ReturnStmt stmt inside each = not (is_absent (ReturnStmt-arg stmt)) ∷ []
returns_by_kind kinds.List stmt inside each = flat_map (λ returns. returns) each
returns_by_kind kind stmt inside each = flat_map inside (entered kind)

abbrev pub returns_form : Tree → (ℕ → List Bool) → List (List Bool) → List Bool
returns_form stmt = returns_by_kind (kind_of stmt) stmt

unfoldable pub returns : Tree → List Bool
returns = by_form [] returns_form

-- whether the last return statement is the only one with an argument
abbrev pub last_alone : List Bool → Bool
last_alone [] = false
last_alone (has_argument ∷ []) = has_argument
last_alone (has_argument ∷ next ∷ rest) = not has_argument && last_alone (next ∷ rest)

-- no return statement; none with an argument; the last the only one with an argument; else several
abbrev pub class_of_returns : List Bool → ReturnStatementAnalysis
class_of_returns [] = class.None
class_of_returns (first ∷ rest) =
    if list_all not (first ∷ rest) then class.Void
    else (if last_alone (first ∷ rest) then class.Single else class.Multiple)

-- an empty body has nothing to return; another is classed by its return statements
abbrev pub class_of_body : List Tree → List Bool → ReturnStatementAnalysis
class_of_body [] returned = class.Void
class_of_body (_ ∷ _) returned = class_of_returns returned

-- the return class of a body, a block
abbrev pub return_class : Tree → ReturnStatementAnalysis
return_class body = class_of_body (parts (BlockStmt-stmts body)) (returns body)
