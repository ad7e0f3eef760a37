-- Written by forms/write.py from forms/forms.txt.
-- Which pattern or property a node is.
-- Each choice goes by the kind of the node: `Other` stands for a kind of none of its forms.
use Rattle.fast_check_tree_syntax.specs.declared.kind.Kind.{Kind}
use Rattle.fast_check_tree_syntax.specs.declared.kind.Kind.TheVariants as kinds
use Rattle.fast_check_tree_forms.specs.ExpressionChoices.{expr_of, if_expr}
use Rattle.fast_check_tree_forms.specs.declared.pattern_choices.Pat.{Pat}
use Rattle.fast_check_tree_forms.specs.declared.pattern_choices.ObjectPatProp.{ObjectPatProp}
use Rattle.fast_check_tree_forms.specs.declared.pattern_choices.AssignTarget.{AssignTarget}
use Rattle.fast_check_tree_forms.specs.declared.pattern_choices.Prop.{Prop}
use Rattle.fast_check_tree_forms.specs.declared.pattern_choices.PropOrSpread.{PropOrSpread}

-- A pattern.
abbrev pub pat_of : Kind → Pat
pat_of kinds.BindingIdent = Pat.Ident
pat_of kinds.ArrayPat = Pat.Array
pat_of kinds.RestPat = Pat.Rest
pat_of kinds.ObjectPat = Pat.Object
pat_of kinds.AssignPat = Pat.Assign
pat_of kinds.Invalid = Pat.Invalid
pat_of kinds.PatExpr = Pat.Expr
pat_of _ = Pat.Other

-- the first where it is one of these, else the second
abbrev pub if_pat : {A : Type 0} → Pat → A → A → A
if_pat Pat.Other one other = other
if_pat _ one other = one

-- What stands in the braces of an object pattern.
abbrev pub object_pat_prop_of : Kind → ObjectPatProp
object_pat_prop_of kinds.KeyValuePatProp = ObjectPatProp.KeyValue
object_pat_prop_of kinds.AssignPatProp = ObjectPatProp.Assign
object_pat_prop_of kinds.RestPat = ObjectPatProp.Rest
object_pat_prop_of _ = ObjectPatProp.Other

-- What is assigned to: an expression, or a pattern.
abbrev pub assign_target_of : Kind → AssignTarget
assign_target_of kinds.TargetPat = AssignTarget.Pat
assign_target_of kind = if_expr (expr_of kind) AssignTarget.Simple AssignTarget.Other

-- A property of an object.
abbrev pub prop_of : Kind → Prop
prop_of kinds.Ident = Prop.Shorthand
prop_of kinds.KeyValueProp = Prop.KeyValue
prop_of kinds.AssignProp = Prop.Assign
prop_of kinds.GetterProp = Prop.Getter
prop_of kinds.SetterProp = Prop.Setter
prop_of kinds.MethodProp = Prop.Method
prop_of _ = Prop.Other

-- the first where it is one of these, else the second
abbrev pub if_prop : {A : Type 0} → Prop → A → A → A
if_prop Prop.Other one other = other
if_prop _ one other = one

-- What stands in the braces of an object.
abbrev pub prop_or_spread_of : Kind → PropOrSpread
prop_or_spread_of kinds.SpreadElement = PropOrSpread.Spread
prop_or_spread_of kind = if_prop (prop_of kind) PropOrSpread.Prop PropOrSpread.Other
