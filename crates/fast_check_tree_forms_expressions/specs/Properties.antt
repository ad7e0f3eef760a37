-- Written by forms/write.py from forms/forms.txt.
-- What stands in an object's braces.
-- Each form has its fields by their names, what it holds once it reads a node, and the node of its fields.
use Rattle.std.specs.Prelude.{◌≡◌, [], ◌∷◌}
use Rattle.fast_check_tree_syntax.specs.declared.kind.Kind.TheVariants as kinds
use Rattle.fast_check_tree_syntax.specs.declared.part.Part.{Part}
use Rattle.fast_check_tree_syntax.specs.declared.source.SourceRange.{SourceRange}
use Rattle.fast_check_tree_syntax.specs.declared.tree.Tree.{Tree, Range}
use Rattle.fast_check_tree_syntax.specs.Part.{seen}
use Rattle.fast_check_tree_syntax.specs.Shape.{node, part, range_of}
use Rattle.fast_check_tree_forms_expressions.specs.declared.properties.SpreadElement.{SpreadElement}
use Rattle.fast_check_tree_forms_expressions.specs.declared.properties.KeyValueProp.{KeyValueProp}
use Rattle.fast_check_tree_forms_expressions.specs.declared.properties.AssignProp.{AssignProp}
use Rattle.fast_check_tree_forms_expressions.specs.declared.properties.GetterProp.{GetterProp}
use Rattle.fast_check_tree_forms_expressions.specs.declared.properties.SetterProp.{SetterProp}
use Rattle.fast_check_tree_forms_expressions.specs.declared.properties.MethodProp.{MethodProp}
use Rattle.fast_check_tree_forms_expressions.specs.declared.properties.ComputedPropName.{ComputedPropName}

-- `...expr` in an object.
abbrev pub SpreadElement-dot3_token : Tree → SourceRange
SpreadElement-dot3_token t = range_of (part 0 t)

abbrev pub SpreadElement-expr : Tree → Tree
SpreadElement-expr t = part 1 t

pub record ReadsSpreadElement (form : SpreadElement Part) (t : Tree) : Type 0 where
  pub dot3_token : form.dot3_token ≡ SpreadElement-dot3_token t
  pub expr : seen form.expr ≡ SpreadElement-expr t

abbrev pub spread_element : SourceRange → Tree → Tree
spread_element dot3_token expr = node kinds.SpreadElement (Range dot3_token ∷ expr ∷ [])

-- `key: value`.
abbrev pub KeyValueProp-key : Tree → Tree
KeyValueProp-key t = part 0 t

abbrev pub KeyValueProp-value : Tree → Tree
KeyValueProp-value t = part 1 t

pub record ReadsKeyValueProp (form : KeyValueProp Part) (t : Tree) : Type 0 where
  pub key : seen form.key ≡ KeyValueProp-key t
  pub value : seen form.value ≡ KeyValueProp-value t

abbrev pub key_value_prop : Tree → Tree → Tree
key_value_prop key value = node kinds.KeyValueProp (key ∷ value ∷ [])

-- `key = value`, which stands only in what is then read as a pattern.
abbrev pub AssignProp-span : Tree → SourceRange
AssignProp-span t = range_of (part 0 t)

abbrev pub AssignProp-key : Tree → Tree
AssignProp-key t = part 1 t

abbrev pub AssignProp-value : Tree → Tree
AssignProp-value t = part 2 t

pub record ReadsAssignProp (form : AssignProp Part) (t : Tree) : Type 0 where
  pub span : form.span ≡ AssignProp-span t
  pub key : seen form.key ≡ AssignProp-key t
  pub value : seen form.value ≡ AssignProp-value t

abbrev pub assign_prop : SourceRange → Tree → Tree → Tree
assign_prop span key value = node kinds.AssignProp (Range span ∷ key ∷ value ∷ [])

-- `get key(): type_ann body`.
abbrev pub GetterProp-span : Tree → SourceRange
GetterProp-span t = range_of (part 0 t)

abbrev pub GetterProp-key : Tree → Tree
GetterProp-key t = part 1 t

abbrev pub GetterProp-type_ann : Tree → Tree
GetterProp-type_ann t = part 2 t

abbrev pub GetterProp-body : Tree → Tree
GetterProp-body t = part 3 t

pub record ReadsGetterProp (form : GetterProp Part) (t : Tree) : Type 0 where
  pub span : form.span ≡ GetterProp-span t
  pub key : seen form.key ≡ GetterProp-key t
  pub type_ann : seen form.type_ann ≡ GetterProp-type_ann t
  pub body : seen form.body ≡ GetterProp-body t

abbrev pub getter_prop : SourceRange → Tree → Tree → Tree → Tree
getter_prop span key type_ann body = node kinds.GetterProp (Range span ∷ key ∷ type_ann ∷ body ∷ [])

-- `set key(param) body`.
abbrev pub SetterProp-span : Tree → SourceRange
SetterProp-span t = range_of (part 0 t)

abbrev pub SetterProp-key : Tree → Tree
SetterProp-key t = part 1 t

abbrev pub SetterProp-param : Tree → Tree
SetterProp-param t = part 2 t

abbrev pub SetterProp-body : Tree → Tree
SetterProp-body t = part 3 t

pub record ReadsSetterProp (form : SetterProp Part) (t : Tree) : Type 0 where
  pub span : form.span ≡ SetterProp-span t
  pub key : seen form.key ≡ SetterProp-key t
  pub param : seen form.param ≡ SetterProp-param t
  pub body : seen form.body ≡ SetterProp-body t

abbrev pub setter_prop : SourceRange → Tree → Tree → Tree → Tree
setter_prop span key param body = node kinds.SetterProp (Range span ∷ key ∷ param ∷ body ∷ [])

-- `key(..) ..`, with the rest in `function`.
abbrev pub MethodProp-key : Tree → Tree
MethodProp-key t = part 0 t

abbrev pub MethodProp-function : Tree → Tree
MethodProp-function t = part 1 t

pub record ReadsMethodProp (form : MethodProp Part) (t : Tree) : Type 0 where
  pub key : seen form.key ≡ MethodProp-key t
  pub function : seen form.function ≡ MethodProp-function t

abbrev pub method_prop : Tree → Tree → Tree
method_prop key function = node kinds.MethodProp (key ∷ function ∷ [])

-- `[expr]`, as the name of a property.
abbrev pub ComputedPropName-span : Tree → SourceRange
ComputedPropName-span t = range_of (part 0 t)

abbrev pub ComputedPropName-expr : Tree → Tree
ComputedPropName-expr t = part 1 t

pub record ReadsComputedPropName (form : ComputedPropName Part) (t : Tree) : Type 0 where
  pub span : form.span ≡ ComputedPropName-span t
  pub expr : seen form.expr ≡ ComputedPropName-expr t

abbrev pub computed_prop_name : SourceRange → Tree → Tree
computed_prop_name span expr = node kinds.ComputedPropName (Range span ∷ expr ∷ [])
