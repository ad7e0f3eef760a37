-- Written by forms/write.py from forms/forms.txt.
-- Operators.
-- Each form has its fields by their names, what it holds once it reads a node, and the node of its fields.
use Rattle.std.specs.Prelude.{◌≡◌, Bool, ℕ, List, [], ◌∷◌}
use Rattle.std.specs.Borrow.{Bor}
use Rattle.fast_check_tree_syntax.specs.declared.kind.Kind.TheVariants as kinds
use Rattle.fast_check_tree_syntax.specs.declared.part.Part.{Part}
use Rattle.fast_check_tree_syntax.specs.declared.source.SourceRange.{SourceRange}
use Rattle.fast_check_tree_syntax.specs.declared.tree.Tree.{Tree, Range, Flag, Text}
use Rattle.fast_check_tree_syntax.specs.Part.{seen}
use Rattle.fast_check_tree_syntax.specs.Shape.{node, part, range_of, text_of, flag_of}
use Rattle.fast_check_tree_forms_expressions.specs.declared.operators.UnaryExpr.{UnaryExpr}
use Rattle.fast_check_tree_forms_expressions.specs.declared.operators.UpdateExpr.{UpdateExpr}
use Rattle.fast_check_tree_forms_expressions.specs.declared.operators.BinExpr.{BinExpr}
use Rattle.fast_check_tree_forms_expressions.specs.declared.operators.AssignExpr.{AssignExpr}
use Rattle.fast_check_tree_forms_expressions.specs.declared.operators.CondExpr.{CondExpr}

-- `op arg`, as `!a` or `typeof a`.
abbrev pub UnaryExpr-span : Tree → SourceRange
UnaryExpr-span t = range_of (part 0 t)

abbrev pub UnaryExpr-op : Tree → List ℕ
UnaryExpr-op t = text_of (part 1 t)

abbrev pub UnaryExpr-arg : Tree → Tree
UnaryExpr-arg t = part 2 t

pub record ReadsUnaryExpr (form : UnaryExpr Part (Bor (List ℕ))) (t : Tree) : Type 0 where
  pub span : form.span ≡ UnaryExpr-span t
  pub op : form.op.now ≡ UnaryExpr-op t
  pub arg : seen form.arg ≡ UnaryExpr-arg t

abbrev pub unary_expr : SourceRange → List ℕ → Tree → Tree
unary_expr span op arg = node kinds.UnaryExpr (Range span ∷ Text op ∷ arg ∷ [])

-- `op arg` or `arg op`, as `++a` or `a--`.
abbrev pub UpdateExpr-span : Tree → SourceRange
UpdateExpr-span t = range_of (part 0 t)

abbrev pub UpdateExpr-op : Tree → List ℕ
UpdateExpr-op t = text_of (part 1 t)

abbrev pub UpdateExpr-prefix : Tree → Bool
UpdateExpr-prefix t = flag_of (part 2 t)

abbrev pub UpdateExpr-arg : Tree → Tree
UpdateExpr-arg t = part 3 t

pub record ReadsUpdateExpr (form : UpdateExpr Part (Bor (List ℕ))) (t : Tree) : Type 0 where
  pub span : form.span ≡ UpdateExpr-span t
  pub op : form.op.now ≡ UpdateExpr-op t
  pub prefix : form.prefix ≡ UpdateExpr-prefix t
  pub arg : seen form.arg ≡ UpdateExpr-arg t

abbrev pub update_expr : SourceRange → List ℕ → Bool → Tree → Tree
update_expr span op prefix arg = node kinds.UpdateExpr (Range span ∷ Text op ∷ Flag prefix ∷ arg ∷ [])

-- `left op right`, as `a + b`.
abbrev pub BinExpr-span : Tree → SourceRange
BinExpr-span t = range_of (part 0 t)

abbrev pub BinExpr-op : Tree → List ℕ
BinExpr-op t = text_of (part 1 t)

abbrev pub BinExpr-left : Tree → Tree
BinExpr-left t = part 2 t

abbrev pub BinExpr-right : Tree → Tree
BinExpr-right t = part 3 t

pub record ReadsBinExpr (form : BinExpr Part (Bor (List ℕ))) (t : Tree) : Type 0 where
  pub span : form.span ≡ BinExpr-span t
  pub op : form.op.now ≡ BinExpr-op t
  pub left : seen form.left ≡ BinExpr-left t
  pub right : seen form.right ≡ BinExpr-right t

abbrev pub bin_expr : SourceRange → List ℕ → Tree → Tree → Tree
bin_expr span op left right = node kinds.BinExpr (Range span ∷ Text op ∷ left ∷ right ∷ [])

-- `left op right`, as `a = b` or `a += b`.
abbrev pub AssignExpr-span : Tree → SourceRange
AssignExpr-span t = range_of (part 0 t)

abbrev pub AssignExpr-op : Tree → List ℕ
AssignExpr-op t = text_of (part 1 t)

abbrev pub AssignExpr-left : Tree → Tree
AssignExpr-left t = part 2 t

abbrev pub AssignExpr-right : Tree → Tree
AssignExpr-right t = part 3 t

pub record ReadsAssignExpr (form : AssignExpr Part (Bor (List ℕ))) (t : Tree) : Type 0 where
  pub span : form.span ≡ AssignExpr-span t
  pub op : form.op.now ≡ AssignExpr-op t
  pub left : seen form.left ≡ AssignExpr-left t
  pub right : seen form.right ≡ AssignExpr-right t

abbrev pub assign_expr : SourceRange → List ℕ → Tree → Tree → Tree
assign_expr span op left right = node kinds.AssignExpr (Range span ∷ Text op ∷ left ∷ right ∷ [])

-- `test ? cons : alt`.
abbrev pub CondExpr-span : Tree → SourceRange
CondExpr-span t = range_of (part 0 t)

abbrev pub CondExpr-test : Tree → Tree
CondExpr-test t = part 1 t

abbrev pub CondExpr-cons : Tree → Tree
CondExpr-cons t = part 2 t

abbrev pub CondExpr-alt : Tree → Tree
CondExpr-alt t = part 3 t

pub record ReadsCondExpr (form : CondExpr Part) (t : Tree) : Type 0 where
  pub span : form.span ≡ CondExpr-span t
  pub test : seen form.test ≡ CondExpr-test t
  pub cons : seen form.cons ≡ CondExpr-cons t
  pub alt : seen form.alt ≡ CondExpr-alt t

abbrev pub cond_expr : SourceRange → Tree → Tree → Tree → Tree
cond_expr span test cons alt = node kinds.CondExpr (Range span ∷ test ∷ cons ∷ alt ∷ [])
