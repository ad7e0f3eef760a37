-- Written by forms/write.py from forms/forms.txt.
-- TypeScript's own declarations.
-- Each form has its fields by their names, what it holds once it reads a node, and the node of its fields.
use Rattle.std.specs.Prelude.{◌≡◌, Bool, [], ◌∷◌}
use Rattle.fast_check_tree_syntax.specs.declared.kind.Kind.TheVariants as kinds
use Rattle.fast_check_tree_syntax.specs.declared.part.Part.{Part}
use Rattle.fast_check_tree_syntax.specs.declared.source.SourceRange.{SourceRange}
use Rattle.fast_check_tree_syntax.specs.declared.tree.Tree.{Tree, Range, Flag}
use Rattle.fast_check_tree_syntax.specs.Part.{seen}
use Rattle.fast_check_tree_syntax.specs.Shape.{node, part, range_of, flag_of}
use Rattle.fast_check_tree_forms_statements.specs.declared.ts_declarations.TsInterfaceDecl.{TsInterfaceDecl}
use Rattle.fast_check_tree_forms_statements.specs.declared.ts_declarations.TsExprWithTypeArgs.{TsExprWithTypeArgs}
use Rattle.fast_check_tree_forms_statements.specs.declared.ts_declarations.TsInterfaceBody.{TsInterfaceBody}
use Rattle.fast_check_tree_forms_statements.specs.declared.ts_declarations.TsTypeAliasDecl.{TsTypeAliasDecl}
use Rattle.fast_check_tree_forms_statements.specs.declared.ts_declarations.TsEnumDecl.{TsEnumDecl}
use Rattle.fast_check_tree_forms_statements.specs.declared.ts_declarations.TsEnumMember.{TsEnumMember}
use Rattle.fast_check_tree_forms_statements.specs.declared.ts_declarations.TsModuleDecl.{TsModuleDecl}
use Rattle.fast_check_tree_forms_statements.specs.declared.ts_declarations.TsModuleBlock.{TsModuleBlock}
use Rattle.fast_check_tree_forms_statements.specs.declared.ts_declarations.TsNamespaceDecl.{TsNamespaceDecl}

-- `interface id<type_params> extends extends body`.
abbrev pub TsInterfaceDecl-span : Tree → SourceRange
TsInterfaceDecl-span t = range_of (part 0 t)

abbrev pub TsInterfaceDecl-id : Tree → Tree
TsInterfaceDecl-id t = part 1 t

abbrev pub TsInterfaceDecl-declare : Tree → Bool
TsInterfaceDecl-declare t = flag_of (part 2 t)

abbrev pub TsInterfaceDecl-type_params : Tree → Tree
TsInterfaceDecl-type_params t = part 3 t

abbrev pub TsInterfaceDecl-extends : Tree → Tree
TsInterfaceDecl-extends t = part 4 t

abbrev pub TsInterfaceDecl-body : Tree → Tree
TsInterfaceDecl-body t = part 5 t

pub record ReadsTsInterfaceDecl (form : TsInterfaceDecl Part) (t : Tree) : Type 0 where
  pub span : form.span ≡ TsInterfaceDecl-span t
  pub id : seen form.id ≡ TsInterfaceDecl-id t
  pub declare : form.declare ≡ TsInterfaceDecl-declare t
  pub type_params : seen form.type_params ≡ TsInterfaceDecl-type_params t
  pub extends : seen form.extends ≡ TsInterfaceDecl-extends t
  pub body : seen form.body ≡ TsInterfaceDecl-body t

abbrev pub ts_interface_decl : SourceRange → Tree → Bool → Tree → Tree → Tree → Tree
ts_interface_decl span id declare type_params extends body =
    node kinds.TsInterfaceDecl (Range span ∷ id ∷ Flag declare ∷ type_params ∷ extends ∷ body ∷ [])

-- `expr<type_args>`, behind `extends` of an interface or `implements`.
abbrev pub TsExprWithTypeArgs-span : Tree → SourceRange
TsExprWithTypeArgs-span t = range_of (part 0 t)

abbrev pub TsExprWithTypeArgs-expr : Tree → Tree
TsExprWithTypeArgs-expr t = part 1 t

abbrev pub TsExprWithTypeArgs-type_args : Tree → Tree
TsExprWithTypeArgs-type_args t = part 2 t

pub record ReadsTsExprWithTypeArgs (form : TsExprWithTypeArgs Part) (t : Tree) : Type 0 where
  pub span : form.span ≡ TsExprWithTypeArgs-span t
  pub expr : seen form.expr ≡ TsExprWithTypeArgs-expr t
  pub type_args : seen form.type_args ≡ TsExprWithTypeArgs-type_args t

abbrev pub ts_expr_with_type_args : SourceRange → Tree → Tree → Tree
ts_expr_with_type_args span expr type_args = node kinds.TsExprWithTypeArgs (Range span ∷ expr ∷ type_args ∷ [])

-- `{ body }` of an interface.
abbrev pub TsInterfaceBody-span : Tree → SourceRange
TsInterfaceBody-span t = range_of (part 0 t)

abbrev pub TsInterfaceBody-body : Tree → Tree
TsInterfaceBody-body t = part 1 t

pub record ReadsTsInterfaceBody (form : TsInterfaceBody Part) (t : Tree) : Type 0 where
  pub span : form.span ≡ TsInterfaceBody-span t
  pub body : seen form.body ≡ TsInterfaceBody-body t

abbrev pub ts_interface_body : SourceRange → Tree → Tree
ts_interface_body span body = node kinds.TsInterfaceBody (Range span ∷ body ∷ [])

-- `type id<type_params> = type_ann;`.
abbrev pub TsTypeAliasDecl-span : Tree → SourceRange
TsTypeAliasDecl-span t = range_of (part 0 t)

abbrev pub TsTypeAliasDecl-declare : Tree → Bool
TsTypeAliasDecl-declare t = flag_of (part 1 t)

abbrev pub TsTypeAliasDecl-id : Tree → Tree
TsTypeAliasDecl-id t = part 2 t

abbrev pub TsTypeAliasDecl-type_params : Tree → Tree
TsTypeAliasDecl-type_params t = part 3 t

abbrev pub TsTypeAliasDecl-type_ann : Tree → Tree
TsTypeAliasDecl-type_ann t = part 4 t

pub record ReadsTsTypeAliasDecl (form : TsTypeAliasDecl Part) (t : Tree) : Type 0 where
  pub span : form.span ≡ TsTypeAliasDecl-span t
  pub declare : form.declare ≡ TsTypeAliasDecl-declare t
  pub id : seen form.id ≡ TsTypeAliasDecl-id t
  pub type_params : seen form.type_params ≡ TsTypeAliasDecl-type_params t
  pub type_ann : seen form.type_ann ≡ TsTypeAliasDecl-type_ann t

abbrev pub ts_type_alias_decl : SourceRange → Bool → Tree → Tree → Tree → Tree
ts_type_alias_decl span declare id type_params type_ann =
    node kinds.TsTypeAliasDecl (Range span ∷ Flag declare ∷ id ∷ type_params ∷ type_ann ∷ [])

-- `enum id { members }`.
abbrev pub TsEnumDecl-span : Tree → SourceRange
TsEnumDecl-span t = range_of (part 0 t)

abbrev pub TsEnumDecl-declare : Tree → Bool
TsEnumDecl-declare t = flag_of (part 1 t)

abbrev pub TsEnumDecl-is_const : Tree → Bool
TsEnumDecl-is_const t = flag_of (part 2 t)

abbrev pub TsEnumDecl-id : Tree → Tree
TsEnumDecl-id t = part 3 t

abbrev pub TsEnumDecl-members : Tree → Tree
TsEnumDecl-members t = part 4 t

pub record ReadsTsEnumDecl (form : TsEnumDecl Part) (t : Tree) : Type 0 where
  pub span : form.span ≡ TsEnumDecl-span t
  pub declare : form.declare ≡ TsEnumDecl-declare t
  pub is_const : form.is_const ≡ TsEnumDecl-is_const t
  pub id : seen form.id ≡ TsEnumDecl-id t
  pub members : seen form.members ≡ TsEnumDecl-members t

abbrev pub ts_enum_decl : SourceRange → Bool → Bool → Tree → Tree → Tree
ts_enum_decl span declare is_const id members =
    node kinds.TsEnumDecl (Range span ∷ Flag declare ∷ Flag is_const ∷ id ∷ members ∷ [])

-- In an enum: `id = init`.
abbrev pub TsEnumMember-span : Tree → SourceRange
TsEnumMember-span t = range_of (part 0 t)

abbrev pub TsEnumMember-id : Tree → Tree
TsEnumMember-id t = part 1 t

abbrev pub TsEnumMember-init : Tree → Tree
TsEnumMember-init t = part 2 t

pub record ReadsTsEnumMember (form : TsEnumMember Part) (t : Tree) : Type 0 where
  pub span : form.span ≡ TsEnumMember-span t
  pub id : seen form.id ≡ TsEnumMember-id t
  pub init : seen form.init ≡ TsEnumMember-init t

abbrev pub ts_enum_member : SourceRange → Tree → Tree → Tree
ts_enum_member span id init = node kinds.TsEnumMember (Range span ∷ id ∷ init ∷ [])

-- `module id body`, `namespace id body` or `global body`.
abbrev pub TsModuleDecl-span : Tree → SourceRange
TsModuleDecl-span t = range_of (part 0 t)

abbrev pub TsModuleDecl-declare : Tree → Bool
TsModuleDecl-declare t = flag_of (part 1 t)

abbrev pub TsModuleDecl-global : Tree → Bool
TsModuleDecl-global t = flag_of (part 2 t)

abbrev pub TsModuleDecl-namespace : Tree → Bool
TsModuleDecl-namespace t = flag_of (part 3 t)

abbrev pub TsModuleDecl-id : Tree → Tree
TsModuleDecl-id t = part 4 t

abbrev pub TsModuleDecl-body : Tree → Tree
TsModuleDecl-body t = part 5 t

pub record ReadsTsModuleDecl (form : TsModuleDecl Part) (t : Tree) : Type 0 where
  pub span : form.span ≡ TsModuleDecl-span t
  pub declare : form.declare ≡ TsModuleDecl-declare t
  pub global : form.global ≡ TsModuleDecl-global t
  pub namespace : form.namespace ≡ TsModuleDecl-namespace t
  pub id : seen form.id ≡ TsModuleDecl-id t
  pub body : seen form.body ≡ TsModuleDecl-body t

abbrev pub ts_module_decl : SourceRange → Bool → Bool → Bool → Tree → Tree → Tree
ts_module_decl span declare global namespace id body =
    node kinds.TsModuleDecl (Range span ∷ Flag declare ∷ Flag global ∷ Flag namespace ∷ id ∷ body ∷ [])

-- `{ body }` of a module or namespace.
abbrev pub TsModuleBlock-span : Tree → SourceRange
TsModuleBlock-span t = range_of (part 0 t)

abbrev pub TsModuleBlock-body : Tree → Tree
TsModuleBlock-body t = part 1 t

pub record ReadsTsModuleBlock (form : TsModuleBlock Part) (t : Tree) : Type 0 where
  pub span : form.span ≡ TsModuleBlock-span t
  pub body : seen form.body ≡ TsModuleBlock-body t

abbrev pub ts_module_block : SourceRange → Tree → Tree
ts_module_block span body = node kinds.TsModuleBlock (Range span ∷ body ∷ [])

-- In `namespace a.b {}` what follows the first name: `id body`.
abbrev pub TsNamespaceDecl-span : Tree → SourceRange
TsNamespaceDecl-span t = range_of (part 0 t)

abbrev pub TsNamespaceDecl-declare : Tree → Bool
TsNamespaceDecl-declare t = flag_of (part 1 t)

abbrev pub TsNamespaceDecl-global : Tree → Bool
TsNamespaceDecl-global t = flag_of (part 2 t)

abbrev pub TsNamespaceDecl-id : Tree → Tree
TsNamespaceDecl-id t = part 3 t

abbrev pub TsNamespaceDecl-body : Tree → Tree
TsNamespaceDecl-body t = part 4 t

pub record ReadsTsNamespaceDecl (form : TsNamespaceDecl Part) (t : Tree) : Type 0 where
  pub span : form.span ≡ TsNamespaceDecl-span t
  pub declare : form.declare ≡ TsNamespaceDecl-declare t
  pub global : form.global ≡ TsNamespaceDecl-global t
  pub id : seen form.id ≡ TsNamespaceDecl-id t
  pub body : seen form.body ≡ TsNamespaceDecl-body t

abbrev pub ts_namespace_decl : SourceRange → Bool → Bool → Tree → Tree → Tree
ts_namespace_decl span declare global id body =
    node kinds.TsNamespaceDecl (Range span ∷ Flag declare ∷ Flag global ∷ id ∷ body ∷ [])
