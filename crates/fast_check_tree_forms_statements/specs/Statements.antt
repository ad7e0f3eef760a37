-- Written by forms/write.py from forms/forms.txt.
-- Statements.
-- Each form has its fields by their names, what it holds once it reads a node, and the node of its fields.
use Rattle.std.specs.Prelude.{◌≡◌, [], ◌∷◌}
use Rattle.fast_check_tree_syntax.specs.declared.kind.Kind.TheVariants as kinds
use Rattle.fast_check_tree_syntax.specs.declared.part.Part.{Part}
use Rattle.fast_check_tree_syntax.specs.declared.source.SourceRange.{SourceRange}
use Rattle.fast_check_tree_syntax.specs.declared.source.SyntaxContext.{SyntaxContext}
use Rattle.fast_check_tree_syntax.specs.declared.tree.Tree.{Tree, Range, Context}
use Rattle.fast_check_tree_syntax.specs.Part.{seen}
use Rattle.fast_check_tree_syntax.specs.Shape.{node, part, range_of, context_of}
use Rattle.fast_check_tree_forms_statements.specs.declared.statements.BlockStmt.{BlockStmt}
use Rattle.fast_check_tree_forms_statements.specs.declared.statements.EmptyStmt.{EmptyStmt}
use Rattle.fast_check_tree_forms_statements.specs.declared.statements.DebuggerStmt.{DebuggerStmt}
use Rattle.fast_check_tree_forms_statements.specs.declared.statements.WithStmt.{WithStmt}
use Rattle.fast_check_tree_forms_statements.specs.declared.statements.ReturnStmt.{ReturnStmt}
use Rattle.fast_check_tree_forms_statements.specs.declared.statements.LabeledStmt.{LabeledStmt}
use Rattle.fast_check_tree_forms_statements.specs.declared.statements.BreakStmt.{BreakStmt}
use Rattle.fast_check_tree_forms_statements.specs.declared.statements.ContinueStmt.{ContinueStmt}
use Rattle.fast_check_tree_forms_statements.specs.declared.statements.IfStmt.{IfStmt}
use Rattle.fast_check_tree_forms_statements.specs.declared.statements.SwitchStmt.{SwitchStmt}
use Rattle.fast_check_tree_forms_statements.specs.declared.statements.SwitchCase.{SwitchCase}
use Rattle.fast_check_tree_forms_statements.specs.declared.statements.ThrowStmt.{ThrowStmt}
use Rattle.fast_check_tree_forms_statements.specs.declared.statements.TryStmt.{TryStmt}
use Rattle.fast_check_tree_forms_statements.specs.declared.statements.CatchClause.{CatchClause}
use Rattle.fast_check_tree_forms_statements.specs.declared.statements.ExprStmt.{ExprStmt}

-- `{ stmts }`.
abbrev pub BlockStmt-span : Tree → SourceRange
BlockStmt-span t = range_of (part 0 t)

abbrev pub BlockStmt-ctxt : Tree → SyntaxContext
BlockStmt-ctxt t = context_of (part 1 t)

abbrev pub BlockStmt-stmts : Tree → Tree
BlockStmt-stmts t = part 2 t

pub record ReadsBlockStmt (form : BlockStmt Part) (t : Tree) : Type 0 where
  pub span : form.span ≡ BlockStmt-span t
  pub ctxt : form.ctxt ≡ BlockStmt-ctxt t
  pub stmts : seen form.stmts ≡ BlockStmt-stmts t

abbrev pub block_stmt : SourceRange → SyntaxContext → Tree → Tree
block_stmt span ctxt stmts = node kinds.BlockStmt (Range span ∷ Context ctxt ∷ stmts ∷ [])

-- A lone `;`, as a statement or a member of a class.
abbrev pub EmptyStmt-span : Tree → SourceRange
EmptyStmt-span t = range_of (part 0 t)

pub record ReadsEmptyStmt (form : EmptyStmt) (t : Tree) : Type 0 where
  pub span : form.span ≡ EmptyStmt-span t

abbrev pub empty_stmt : SourceRange → Tree
empty_stmt span = node kinds.EmptyStmt (Range span ∷ [])

-- `debugger;`.
abbrev pub DebuggerStmt-span : Tree → SourceRange
DebuggerStmt-span t = range_of (part 0 t)

pub record ReadsDebuggerStmt (form : DebuggerStmt) (t : Tree) : Type 0 where
  pub span : form.span ≡ DebuggerStmt-span t

abbrev pub debugger_stmt : SourceRange → Tree
debugger_stmt span = node kinds.DebuggerStmt (Range span ∷ [])

-- `with (obj) body`.
abbrev pub WithStmt-span : Tree → SourceRange
WithStmt-span t = range_of (part 0 t)

abbrev pub WithStmt-obj : Tree → Tree
WithStmt-obj t = part 1 t

abbrev pub WithStmt-body : Tree → Tree
WithStmt-body t = part 2 t

pub record ReadsWithStmt (form : WithStmt Part) (t : Tree) : Type 0 where
  pub span : form.span ≡ WithStmt-span t
  pub obj : seen form.obj ≡ WithStmt-obj t
  pub body : seen form.body ≡ WithStmt-body t

abbrev pub with_stmt : SourceRange → Tree → Tree → Tree
with_stmt span obj body = node kinds.WithStmt (Range span ∷ obj ∷ body ∷ [])

-- `return arg;`.
abbrev pub ReturnStmt-span : Tree → SourceRange
ReturnStmt-span t = range_of (part 0 t)

abbrev pub ReturnStmt-arg : Tree → Tree
ReturnStmt-arg t = part 1 t

pub record ReadsReturnStmt (form : ReturnStmt Part) (t : Tree) : Type 0 where
  pub span : form.span ≡ ReturnStmt-span t
  pub arg : seen form.arg ≡ ReturnStmt-arg t

abbrev pub return_stmt : SourceRange → Tree → Tree
return_stmt span arg = node kinds.ReturnStmt (Range span ∷ arg ∷ [])

-- `label: body`.
abbrev pub LabeledStmt-span : Tree → SourceRange
LabeledStmt-span t = range_of (part 0 t)

abbrev pub LabeledStmt-label : Tree → Tree
LabeledStmt-label t = part 1 t

abbrev pub LabeledStmt-body : Tree → Tree
LabeledStmt-body t = part 2 t

pub record ReadsLabeledStmt (form : LabeledStmt Part) (t : Tree) : Type 0 where
  pub span : form.span ≡ LabeledStmt-span t
  pub label : seen form.label ≡ LabeledStmt-label t
  pub body : seen form.body ≡ LabeledStmt-body t

abbrev pub labeled_stmt : SourceRange → Tree → Tree → Tree
labeled_stmt span label body = node kinds.LabeledStmt (Range span ∷ label ∷ body ∷ [])

-- `break label;`.
abbrev pub BreakStmt-span : Tree → SourceRange
BreakStmt-span t = range_of (part 0 t)

abbrev pub BreakStmt-label : Tree → Tree
BreakStmt-label t = part 1 t

pub record ReadsBreakStmt (form : BreakStmt Part) (t : Tree) : Type 0 where
  pub span : form.span ≡ BreakStmt-span t
  pub label : seen form.label ≡ BreakStmt-label t

abbrev pub break_stmt : SourceRange → Tree → Tree
break_stmt span label = node kinds.BreakStmt (Range span ∷ label ∷ [])

-- `continue label;`.
abbrev pub ContinueStmt-span : Tree → SourceRange
ContinueStmt-span t = range_of (part 0 t)

abbrev pub ContinueStmt-label : Tree → Tree
ContinueStmt-label t = part 1 t

pub record ReadsContinueStmt (form : ContinueStmt Part) (t : Tree) : Type 0 where
  pub span : form.span ≡ ContinueStmt-span t
  pub label : seen form.label ≡ ContinueStmt-label t

abbrev pub continue_stmt : SourceRange → Tree → Tree
continue_stmt span label = node kinds.ContinueStmt (Range span ∷ label ∷ [])

-- `if (test) cons else alt`.
abbrev pub IfStmt-span : Tree → SourceRange
IfStmt-span t = range_of (part 0 t)

abbrev pub IfStmt-test : Tree → Tree
IfStmt-test t = part 1 t

abbrev pub IfStmt-cons : Tree → Tree
IfStmt-cons t = part 2 t

abbrev pub IfStmt-alt : Tree → Tree
IfStmt-alt t = part 3 t

pub record ReadsIfStmt (form : IfStmt Part) (t : Tree) : Type 0 where
  pub span : form.span ≡ IfStmt-span t
  pub test : seen form.test ≡ IfStmt-test t
  pub cons : seen form.cons ≡ IfStmt-cons t
  pub alt : seen form.alt ≡ IfStmt-alt t

abbrev pub if_stmt : SourceRange → Tree → Tree → Tree → Tree
if_stmt span test cons alt = node kinds.IfStmt (Range span ∷ test ∷ cons ∷ alt ∷ [])

-- `switch (discriminant) { cases }`.
abbrev pub SwitchStmt-span : Tree → SourceRange
SwitchStmt-span t = range_of (part 0 t)

abbrev pub SwitchStmt-discriminant : Tree → Tree
SwitchStmt-discriminant t = part 1 t

abbrev pub SwitchStmt-cases : Tree → Tree
SwitchStmt-cases t = part 2 t

pub record ReadsSwitchStmt (form : SwitchStmt Part) (t : Tree) : Type 0 where
  pub span : form.span ≡ SwitchStmt-span t
  pub discriminant : seen form.discriminant ≡ SwitchStmt-discriminant t
  pub cases : seen form.cases ≡ SwitchStmt-cases t

abbrev pub switch_stmt : SourceRange → Tree → Tree → Tree
switch_stmt span discriminant cases = node kinds.SwitchStmt (Range span ∷ discriminant ∷ cases ∷ [])

-- `case test: cons`, or `default: cons` where there is no test.
abbrev pub SwitchCase-span : Tree → SourceRange
SwitchCase-span t = range_of (part 0 t)

abbrev pub SwitchCase-test : Tree → Tree
SwitchCase-test t = part 1 t

abbrev pub SwitchCase-cons : Tree → Tree
SwitchCase-cons t = part 2 t

pub record ReadsSwitchCase (form : SwitchCase Part) (t : Tree) : Type 0 where
  pub span : form.span ≡ SwitchCase-span t
  pub test : seen form.test ≡ SwitchCase-test t
  pub cons : seen form.cons ≡ SwitchCase-cons t

abbrev pub switch_case : SourceRange → Tree → Tree → Tree
switch_case span test cons = node kinds.SwitchCase (Range span ∷ test ∷ cons ∷ [])

-- `throw arg;`.
abbrev pub ThrowStmt-span : Tree → SourceRange
ThrowStmt-span t = range_of (part 0 t)

abbrev pub ThrowStmt-arg : Tree → Tree
ThrowStmt-arg t = part 1 t

pub record ReadsThrowStmt (form : ThrowStmt Part) (t : Tree) : Type 0 where
  pub span : form.span ≡ ThrowStmt-span t
  pub arg : seen form.arg ≡ ThrowStmt-arg t

abbrev pub throw_stmt : SourceRange → Tree → Tree
throw_stmt span arg = node kinds.ThrowStmt (Range span ∷ arg ∷ [])

-- `try block handler finally finalizer`.
abbrev pub TryStmt-span : Tree → SourceRange
TryStmt-span t = range_of (part 0 t)

abbrev pub TryStmt-block : Tree → Tree
TryStmt-block t = part 1 t

abbrev pub TryStmt-handler : Tree → Tree
TryStmt-handler t = part 2 t

abbrev pub TryStmt-finalizer : Tree → Tree
TryStmt-finalizer t = part 3 t

pub record ReadsTryStmt (form : TryStmt Part) (t : Tree) : Type 0 where
  pub span : form.span ≡ TryStmt-span t
  pub block : seen form.block ≡ TryStmt-block t
  pub handler : seen form.handler ≡ TryStmt-handler t
  pub finalizer : seen form.finalizer ≡ TryStmt-finalizer t

abbrev pub try_stmt : SourceRange → Tree → Tree → Tree → Tree
try_stmt span block handler finalizer = node kinds.TryStmt (Range span ∷ block ∷ handler ∷ finalizer ∷ [])

-- `catch (param) body`.
abbrev pub CatchClause-span : Tree → SourceRange
CatchClause-span t = range_of (part 0 t)

abbrev pub CatchClause-param : Tree → Tree
CatchClause-param t = part 1 t

abbrev pub CatchClause-body : Tree → Tree
CatchClause-body t = part 2 t

pub record ReadsCatchClause (form : CatchClause Part) (t : Tree) : Type 0 where
  pub span : form.span ≡ CatchClause-span t
  pub param : seen form.param ≡ CatchClause-param t
  pub body : seen form.body ≡ CatchClause-body t

abbrev pub catch_clause : SourceRange → Tree → Tree → Tree
catch_clause span param body = node kinds.CatchClause (Range span ∷ param ∷ body ∷ [])

-- `expr;`.
abbrev pub ExprStmt-span : Tree → SourceRange
ExprStmt-span t = range_of (part 0 t)

abbrev pub ExprStmt-expr : Tree → Tree
ExprStmt-expr t = part 1 t

pub record ReadsExprStmt (form : ExprStmt Part) (t : Tree) : Type 0 where
  pub span : form.span ≡ ExprStmt-span t
  pub expr : seen form.expr ≡ ExprStmt-expr t

abbrev pub expr_stmt : SourceRange → Tree → Tree
expr_stmt span expr = node kinds.ExprStmt (Range span ∷ expr ∷ [])
