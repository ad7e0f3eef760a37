-- Written by forms/write.py from forms/forms.txt.
-- Which name, key or literal a node is.
-- Each choice goes by the kind of the node: `Other` stands for a kind of none of its forms.
use Rattle.fast_check_tree_syntax.specs.declared.kind.Kind.{Kind}
use Rattle.fast_check_tree_syntax.specs.declared.kind.Kind.TheVariants as kinds
use Rattle.fast_check_tree_forms.specs.declared.name_choices.Lit.{Lit}
use Rattle.fast_check_tree_forms.specs.declared.name_choices.PropName.{PropName}
use Rattle.fast_check_tree_forms.specs.declared.name_choices.MemberProp.{MemberProp}
use Rattle.fast_check_tree_forms.specs.declared.name_choices.Key.{Key}
use Rattle.fast_check_tree_forms.specs.declared.name_choices.ModuleExportName.{ModuleExportName}
use Rattle.fast_check_tree_forms.specs.declared.name_choices.TsModuleName.{TsModuleName}
use Rattle.fast_check_tree_forms.specs.declared.name_choices.TsEnumMemberId.{TsEnumMemberId}

-- A literal.
abbrev pub lit_of : Kind → Lit
lit_of kinds.Str = Lit.Str
lit_of kinds.Bool = Lit.Bool
lit_of kinds.Null = Lit.Null
lit_of kinds.Number = Lit.Num
lit_of kinds.BigInt = Lit.BigInt
lit_of kinds.Regex = Lit.Regex
lit_of kinds.JSXText = Lit.JSXText
lit_of _ = Lit.Other

-- the first where it is one of these, else the second
abbrev pub if_lit : {A : Type 0} → Lit → A → A → A
if_lit Lit.Other one other = other
if_lit _ one other = one

-- The name of a property or method.
abbrev pub prop_name_of : Kind → PropName
prop_name_of kinds.IdentName = PropName.Ident
prop_name_of kinds.Str = PropName.Str
prop_name_of kinds.Number = PropName.Num
prop_name_of kinds.ComputedPropName = PropName.Computed
prop_name_of kinds.BigInt = PropName.BigInt
prop_name_of _ = PropName.Other

-- the first where it is one of these, else the second
abbrev pub if_prop_name : {A : Type 0} → PropName → A → A → A
if_prop_name PropName.Other one other = other
if_prop_name _ one other = one

-- What stands behind the dot of a member, or in its brackets.
abbrev pub member_prop_of : Kind → MemberProp
member_prop_of kinds.IdentName = MemberProp.Ident
member_prop_of kinds.PrivateName = MemberProp.PrivateName
member_prop_of kinds.ComputedPropName = MemberProp.Computed
member_prop_of _ = MemberProp.Other

-- The name of an accessor of a class.
abbrev pub key_of : Kind → Key
key_of kinds.PrivateName = Key.Private
key_of kind = if_prop_name (prop_name_of kind) Key.Public Key.Other

-- A name by which a module exports.
abbrev pub module_export_name_of : Kind → ModuleExportName
module_export_name_of kinds.Ident = ModuleExportName.Ident
module_export_name_of kinds.Str = ModuleExportName.Str
module_export_name_of _ = ModuleExportName.Other

-- The name of a namespace, or the text of an ambient module.
abbrev pub ts_module_name_of : Kind → TsModuleName
ts_module_name_of kinds.Ident = TsModuleName.Ident
ts_module_name_of kinds.Str = TsModuleName.Str
ts_module_name_of _ = TsModuleName.Other

-- The name of a member of an enum.
abbrev pub ts_enum_member_id_of : Kind → TsEnumMemberId
ts_enum_member_id_of kinds.Ident = TsEnumMemberId.Ident
ts_enum_member_id_of kinds.Str = TsEnumMemberId.Str
ts_enum_member_id_of _ = TsEnumMemberId.Other
