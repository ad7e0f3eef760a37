-- Written by forms/write.py from forms/forms.txt.
-- Patterns.
-- Each form has its fields by their names, what it holds once it reads a node, and the node of its fields.
use Rattle.std.specs.Prelude.{◌≡◌, Bool, [], ◌∷◌}
use Rattle.fast_check_tree_syntax.specs.declared.kind.Kind.TheVariants as kinds
use Rattle.fast_check_tree_syntax.specs.declared.part.Part.{Part}
use Rattle.fast_check_tree_syntax.specs.declared.source.SourceRange.{SourceRange}
use Rattle.fast_check_tree_syntax.specs.declared.tree.Tree.{Tree, Range, Flag}
use Rattle.fast_check_tree_syntax.specs.Part.{seen}
use Rattle.fast_check_tree_syntax.specs.Shape.{node, part, range_of, flag_of}
use Rattle.fast_check_tree_forms_expressions.specs.declared.patterns.ArrayPat.{ArrayPat}
use Rattle.fast_check_tree_forms_expressions.specs.declared.patterns.RestPat.{RestPat}
use Rattle.fast_check_tree_forms_expressions.specs.declared.patterns.ObjectPat.{ObjectPat}
use Rattle.fast_check_tree_forms_expressions.specs.declared.patterns.AssignPat.{AssignPat}
use Rattle.fast_check_tree_forms_expressions.specs.declared.patterns.KeyValuePatProp.{KeyValuePatProp}
use Rattle.fast_check_tree_forms_expressions.specs.declared.patterns.AssignPatProp.{AssignPatProp}
use Rattle.fast_check_tree_forms_expressions.specs.declared.patterns.PatExpr.{PatExpr}
use Rattle.fast_check_tree_forms_expressions.specs.declared.patterns.TargetPat.{TargetPat}

-- `[elems]: type_ann`.
abbrev pub ArrayPat-span : Tree → SourceRange
ArrayPat-span t = range_of (part 0 t)

abbrev pub ArrayPat-elems : Tree → Tree
ArrayPat-elems t = part 1 t

abbrev pub ArrayPat-optional : Tree → Bool
ArrayPat-optional t = flag_of (part 2 t)

abbrev pub ArrayPat-type_ann : Tree → Tree
ArrayPat-type_ann t = part 3 t

pub record ReadsArrayPat (form : ArrayPat Part) (t : Tree) : Type 0 where
  pub span : form.span ≡ ArrayPat-span t
  pub elems : seen form.elems ≡ ArrayPat-elems t
  pub optional : form.optional ≡ ArrayPat-optional t
  pub type_ann : seen form.type_ann ≡ ArrayPat-type_ann t

abbrev pub array_pat : SourceRange → Tree → Bool → Tree → Tree
array_pat span elems optional type_ann = node kinds.ArrayPat (Range span ∷ elems ∷ Flag optional ∷ type_ann ∷ [])

-- `...arg: type_ann`.
abbrev pub RestPat-span : Tree → SourceRange
RestPat-span t = range_of (part 0 t)

abbrev pub RestPat-dot3_token : Tree → SourceRange
RestPat-dot3_token t = range_of (part 1 t)

abbrev pub RestPat-arg : Tree → Tree
RestPat-arg t = part 2 t

abbrev pub RestPat-type_ann : Tree → Tree
RestPat-type_ann t = part 3 t

pub record ReadsRestPat (form : RestPat Part) (t : Tree) : Type 0 where
  pub span : form.span ≡ RestPat-span t
  pub dot3_token : form.dot3_token ≡ RestPat-dot3_token t
  pub arg : seen form.arg ≡ RestPat-arg t
  pub type_ann : seen form.type_ann ≡ RestPat-type_ann t

abbrev pub rest_pat : SourceRange → SourceRange → Tree → Tree → Tree
rest_pat span dot3_token arg type_ann = node kinds.RestPat (Range span ∷ Range dot3_token ∷ arg ∷ type_ann ∷ [])

-- `{ props }: type_ann`.
abbrev pub ObjectPat-span : Tree → SourceRange
ObjectPat-span t = range_of (part 0 t)

abbrev pub ObjectPat-props : Tree → Tree
ObjectPat-props t = part 1 t

abbrev pub ObjectPat-optional : Tree → Bool
ObjectPat-optional t = flag_of (part 2 t)

abbrev pub ObjectPat-type_ann : Tree → Tree
ObjectPat-type_ann t = part 3 t

pub record ReadsObjectPat (form : ObjectPat Part) (t : Tree) : Type 0 where
  pub span : form.span ≡ ObjectPat-span t
  pub props : seen form.props ≡ ObjectPat-props t
  pub optional : form.optional ≡ ObjectPat-optional t
  pub type_ann : seen form.type_ann ≡ ObjectPat-type_ann t

abbrev pub object_pat : SourceRange → Tree → Bool → Tree → Tree
object_pat span props optional type_ann = node kinds.ObjectPat (Range span ∷ props ∷ Flag optional ∷ type_ann ∷ [])

-- `left = right`.
abbrev pub AssignPat-span : Tree → SourceRange
AssignPat-span t = range_of (part 0 t)

abbrev pub AssignPat-left : Tree → Tree
AssignPat-left t = part 1 t

abbrev pub AssignPat-right : Tree → Tree
AssignPat-right t = part 2 t

pub record ReadsAssignPat (form : AssignPat Part) (t : Tree) : Type 0 where
  pub span : form.span ≡ AssignPat-span t
  pub left : seen form.left ≡ AssignPat-left t
  pub right : seen form.right ≡ AssignPat-right t

abbrev pub assign_pat : SourceRange → Tree → Tree → Tree
assign_pat span left right = node kinds.AssignPat (Range span ∷ left ∷ right ∷ [])

-- `key: value` in an object pattern.
abbrev pub KeyValuePatProp-key : Tree → Tree
KeyValuePatProp-key t = part 0 t

abbrev pub KeyValuePatProp-value : Tree → Tree
KeyValuePatProp-value t = part 1 t

pub record ReadsKeyValuePatProp (form : KeyValuePatProp Part) (t : Tree) : Type 0 where
  pub key : seen form.key ≡ KeyValuePatProp-key t
  pub value : seen form.value ≡ KeyValuePatProp-value t

abbrev pub key_value_pat_prop : Tree → Tree → Tree
key_value_pat_prop key value = node kinds.KeyValuePatProp (key ∷ value ∷ [])

-- `key = value` in an object pattern, or `key` alone.
abbrev pub AssignPatProp-span : Tree → SourceRange
AssignPatProp-span t = range_of (part 0 t)

abbrev pub AssignPatProp-key : Tree → Tree
AssignPatProp-key t = part 1 t

abbrev pub AssignPatProp-value : Tree → Tree
AssignPatProp-value t = part 2 t

pub record ReadsAssignPatProp (form : AssignPatProp Part) (t : Tree) : Type 0 where
  pub span : form.span ≡ AssignPatProp-span t
  pub key : seen form.key ≡ AssignPatProp-key t
  pub value : seen form.value ≡ AssignPatProp-value t

abbrev pub assign_pat_prop : SourceRange → Tree → Tree → Tree
assign_pat_prop span key value = node kinds.AssignPatProp (Range span ∷ key ∷ value ∷ [])

-- An expression where a pattern stands, as `a.b` in `[a.b] = c`.
abbrev pub PatExpr-expr : Tree → Tree
PatExpr-expr t = part 0 t

pub record ReadsPatExpr (form : PatExpr Part) (t : Tree) : Type 0 where
  pub expr : seen form.expr ≡ PatExpr-expr t

abbrev pub pat_expr : Tree → Tree
pat_expr expr = node kinds.PatExpr (expr ∷ [])

-- A pattern that is assigned to, as `[a]` in `[a] = b`.
abbrev pub TargetPat-pat : Tree → Tree
TargetPat-pat t = part 0 t

pub record ReadsTargetPat (form : TargetPat Part) (t : Tree) : Type 0 where
  pub pat : seen form.pat ≡ TargetPat-pat t

abbrev pub target_pat : Tree → Tree
target_pat pat = node kinds.TargetPat (pat ∷ [])
