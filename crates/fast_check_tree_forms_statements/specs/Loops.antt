-- Written by forms/write.py from forms/forms.txt.
-- Loops.
-- Each form has its fields by their names, what it holds once it reads a node, and the node of its fields.
use Rattle.std.specs.Prelude.{◌≡◌, Bool, [], ◌∷◌}
use Rattle.fast_check_tree_syntax.specs.declared.kind.Kind.TheVariants as kinds
use Rattle.fast_check_tree_syntax.specs.declared.part.Part.{Part}
use Rattle.fast_check_tree_syntax.specs.declared.source.SourceRange.{SourceRange}
use Rattle.fast_check_tree_syntax.specs.declared.tree.Tree.{Tree, Range, Flag}
use Rattle.fast_check_tree_syntax.specs.Part.{seen}
use Rattle.fast_check_tree_syntax.specs.Shape.{node, part, range_of, flag_of}
use Rattle.fast_check_tree_forms_statements.specs.declared.loops.WhileStmt.{WhileStmt}
use Rattle.fast_check_tree_forms_statements.specs.declared.loops.DoWhileStmt.{DoWhileStmt}
use Rattle.fast_check_tree_forms_statements.specs.declared.loops.ForStmt.{ForStmt}
use Rattle.fast_check_tree_forms_statements.specs.declared.loops.ForInStmt.{ForInStmt}
use Rattle.fast_check_tree_forms_statements.specs.declared.loops.ForOfStmt.{ForOfStmt}

-- `while (test) body`.
abbrev pub WhileStmt-span : Tree → SourceRange
WhileStmt-span t = range_of (part 0 t)

abbrev pub WhileStmt-test : Tree → Tree
WhileStmt-test t = part 1 t

abbrev pub WhileStmt-body : Tree → Tree
WhileStmt-body t = part 2 t

pub record ReadsWhileStmt (form : WhileStmt Part) (t : Tree) : Type 0 where
  pub span : form.span ≡ WhileStmt-span t
  pub test : seen form.test ≡ WhileStmt-test t
  pub body : seen form.body ≡ WhileStmt-body t

abbrev pub while_stmt : SourceRange → Tree → Tree → Tree
while_stmt span test body = node kinds.WhileStmt (Range span ∷ test ∷ body ∷ [])

-- `do body while (test);`.
abbrev pub DoWhileStmt-span : Tree → SourceRange
DoWhileStmt-span t = range_of (part 0 t)

abbrev pub DoWhileStmt-test : Tree → Tree
DoWhileStmt-test t = part 1 t

abbrev pub DoWhileStmt-body : Tree → Tree
DoWhileStmt-body t = part 2 t

pub record ReadsDoWhileStmt (form : DoWhileStmt Part) (t : Tree) : Type 0 where
  pub span : form.span ≡ DoWhileStmt-span t
  pub test : seen form.test ≡ DoWhileStmt-test t
  pub body : seen form.body ≡ DoWhileStmt-body t

abbrev pub do_while_stmt : SourceRange → Tree → Tree → Tree
do_while_stmt span test body = node kinds.DoWhileStmt (Range span ∷ test ∷ body ∷ [])

-- `for (init; test; update) body`.
abbrev pub ForStmt-span : Tree → SourceRange
ForStmt-span t = range_of (part 0 t)

abbrev pub ForStmt-init : Tree → Tree
ForStmt-init t = part 1 t

abbrev pub ForStmt-test : Tree → Tree
ForStmt-test t = part 2 t

abbrev pub ForStmt-update : Tree → Tree
ForStmt-update t = part 3 t

abbrev pub ForStmt-body : Tree → Tree
ForStmt-body t = part 4 t

pub record ReadsForStmt (form : ForStmt Part) (t : Tree) : Type 0 where
  pub span : form.span ≡ ForStmt-span t
  pub init : seen form.init ≡ ForStmt-init t
  pub test : seen form.test ≡ ForStmt-test t
  pub update : seen form.update ≡ ForStmt-update t
  pub body : seen form.body ≡ ForStmt-body t

abbrev pub for_stmt : SourceRange → Tree → Tree → Tree → Tree → Tree
for_stmt span init test update body = node kinds.ForStmt (Range span ∷ init ∷ test ∷ update ∷ body ∷ [])

-- `for (left in right) body`.
abbrev pub ForInStmt-span : Tree → SourceRange
ForInStmt-span t = range_of (part 0 t)

abbrev pub ForInStmt-left : Tree → Tree
ForInStmt-left t = part 1 t

abbrev pub ForInStmt-right : Tree → Tree
ForInStmt-right t = part 2 t

abbrev pub ForInStmt-body : Tree → Tree
ForInStmt-body t = part 3 t

pub record ReadsForInStmt (form : ForInStmt Part) (t : Tree) : Type 0 where
  pub span : form.span ≡ ForInStmt-span t
  pub left : seen form.left ≡ ForInStmt-left t
  pub right : seen form.right ≡ ForInStmt-right t
  pub body : seen form.body ≡ ForInStmt-body t

abbrev pub for_in_stmt : SourceRange → Tree → Tree → Tree → Tree
for_in_stmt span left right body = node kinds.ForInStmt (Range span ∷ left ∷ right ∷ body ∷ [])

-- `for (left of right) body`.
abbrev pub ForOfStmt-span : Tree → SourceRange
ForOfStmt-span t = range_of (part 0 t)

abbrev pub ForOfStmt-is_await : Tree → Bool
ForOfStmt-is_await t = flag_of (part 1 t)

abbrev pub ForOfStmt-left : Tree → Tree
ForOfStmt-left t = part 2 t

abbrev pub ForOfStmt-right : Tree → Tree
ForOfStmt-right t = part 3 t

abbrev pub ForOfStmt-body : Tree → Tree
ForOfStmt-body t = part 4 t

pub record ReadsForOfStmt (form : ForOfStmt Part) (t : Tree) : Type 0 where
  pub span : form.span ≡ ForOfStmt-span t
  pub is_await : form.is_await ≡ ForOfStmt-is_await t
  pub left : seen form.left ≡ ForOfStmt-left t
  pub right : seen form.right ≡ ForOfStmt-right t
  pub body : seen form.body ≡ ForOfStmt-body t

abbrev pub for_of_stmt : SourceRange → Bool → Tree → Tree → Tree → Tree
for_of_stmt span is_await left right body = node kinds.ForOfStmt (Range span ∷ Flag is_await ∷ left ∷ right ∷ body ∷ [])
