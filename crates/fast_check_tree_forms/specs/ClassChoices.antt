-- Written by forms/write.py from forms/forms.txt.
-- Which member of a class a node is, and which parameter of a constructor.
-- Each choice goes by the kind of the node: `Other` stands for a kind of none of its forms.
use Rattle.fast_check_tree_syntax.specs.declared.kind.Kind.{Kind}
use Rattle.fast_check_tree_syntax.specs.declared.kind.Kind.TheVariants as kinds
use Rattle.fast_check_tree_forms.specs.declared.class_choices.ClassMember.{ClassMember}
use Rattle.fast_check_tree_forms.specs.declared.class_choices.ParamOrTsParamProp.{ParamOrTsParamProp}
use Rattle.fast_check_tree_forms.specs.declared.class_choices.TsParamPropParam.{TsParamPropParam}

-- A member of a class.
abbrev pub class_member_of : Kind → ClassMember
class_member_of kinds.Constructor = ClassMember.Constructor
class_member_of kinds.ClassMethod = ClassMember.Method
class_member_of kinds.PrivateMethod = ClassMember.PrivateMethod
class_member_of kinds.ClassProp = ClassMember.ClassProp
class_member_of kinds.PrivateProp = ClassMember.PrivateProp
class_member_of kinds.TsIndexSignature = ClassMember.TsIndexSignature
class_member_of kinds.EmptyStmt = ClassMember.Empty
class_member_of kinds.StaticBlock = ClassMember.StaticBlock
class_member_of kinds.AutoAccessor = ClassMember.AutoAccessor
class_member_of _ = ClassMember.Other

-- A parameter of a constructor.
abbrev pub param_or_ts_param_prop_of : Kind → ParamOrTsParamProp
param_or_ts_param_prop_of kinds.Param = ParamOrTsParamProp.Param
param_or_ts_param_prop_of kinds.TsParamProp = ParamOrTsParamProp.TsParamProp
param_or_ts_param_prop_of _ = ParamOrTsParamProp.Other

-- The parameter that is a property too.
abbrev pub ts_param_prop_param_of : Kind → TsParamPropParam
ts_param_prop_param_of kinds.BindingIdent = TsParamPropParam.Ident
ts_param_prop_param_of kinds.AssignPat = TsParamPropParam.Assign
ts_param_prop_param_of _ = TsParamPropParam.Other
