-- Of the rules by which parts of a module go without a word, or differ unseen: such a part does, whatever stands in it.
-- What is asked of it is no more than what decides that it is not public.
use Rattle.std.specs.Prelude.{◌≡◌, Bool, true, false, not, [], ◌∷◌}
use Rattle.std.specs.List.{list_all}
use Rattle.fast_check_tree_syntax.specs.declared.kind.Kind.TheVariants.{VarDecl, UsingDecl, FnDecl, ClassDecl, ExportDecl}
use Rattle.fast_check_tree_syntax.specs.declared.kind.Kind.TheVariants.{TsModuleDecl, ExprStmt, AssignExpr, ImportDecl}
use Rattle.fast_check_tree_syntax.specs.declared.kind.Kind.TheVariants.{NamedExport, ExportAll, TsImportEqualsDecl}
use Rattle.fast_check_tree_syntax.specs.declared.kind.Kind.TheVariants.{ExportDefaultExpr, ExportDefaultDecl}
use Rattle.fast_check_tree_syntax.specs.declared.source.SourceRange.{SourceRange}
use Rattle.fast_check_tree_syntax.specs.declared.tree.Tree.{Tree}
use Rattle.fast_check_tree_syntax.specs.Shape.{kind_of, parts}
use Rattle.fast_check_tree_syntax.specs.Moves.{Renaming}
use Rattle.fast_check_tree_syntax.specs.Same.{SameTree}
use Rattle.fast_check_tree_helpers.specs.declared.literal_type.DeclMutabilityKind.{DeclMutabilityKind}
use Rattle.fast_check_tree_helpers.specs.ranges.Ranges.{range_of_node}
use Rattle.fast_check_tree_forms_expressions.specs.Operators.{AssignExpr-span}
use Rattle.fast_check_tree_forms_programs.specs.ModuleDecls.{ExportDecl-span, ExportDecl-decl, ImportDecl-specifiers}
use Rattle.fast_check_tree_forms_programs.specs.ModuleDecls.{NamedExport-specifiers, ExportAll-span}
use Rattle.fast_check_tree_forms_programs.specs.ModuleDecls.{TsImportEqualsDecl-span, ExportDefaultDecl-span}
use Rattle.fast_check_tree_forms_programs.specs.ModuleDecls.{ExportDefaultDecl-decl}
use Rattle.fast_check_tree_forms_statements.specs.Declarations.{VarDecl-decls}
use Rattle.fast_check_tree_forms_statements.specs.Statements.{ExprStmt-expr}
use Rattle.fast_check_meaning_skeleton.specs.SameClasses.{HasNoPartner, IsNoPartner}
use Rattle.fast_check_meaning_skeleton.specs.Defaults.{is_public_value}
use Rattle.fast_check_meaning_skeleton.specs.Kinds.{is_standing, is_default_decl}
use Rattle.fast_check_meaning_skeleton.specs.ImportsExports.{public_specifiers}
use Rattle.fast_check_meaning_skeleton.specs.Namespaces.{is_namespace}
use Rattle.fast_check_meaning_skeleton.specs.Rules.{is_require}
use Rattle.fast_check_meaning_skeleton.specs.SameImportsExports.{SamePublic}
use Rattle.fast_check_meaning_skeleton.specs.Hidden.{is_plain_statement, IsSilentDecl, IsSilent, SameHead, SameDeclarator}
use Rattle.fast_check_meaning_skeleton.specs.Hidden.{SameItems}
use Rattle.fast_check_meaning_skeleton.specs.ModuleFacts.{ModuleFacts}
use Rattle.fast_check_meaning_skeleton.specs.SameValues.{SameGiven}
use Rattle.fast_check_meaning_skeleton.specs.Visible.{declarator_typing, is_public_declarator, is_public_using}

-- a declaration `t`; `place` is the range of its export, or else its own
pub record SilentDecls (facts : ModuleFacts) (place : SourceRange) (t : Tree) : Type 0 where
  -- any variables of which none is public
  pub variables : kind_of t ≡ VarDecl →
      list_all (λ d. not (is_public_declarator facts d)) (parts (VarDecl-decls t)) ≡ true → IsSilentDecl facts place t
  -- any interface, type alias or enum that is not public
  pub standing : is_standing (kind_of t) ≡ true → facts.is_public place ≡ false → IsSilentDecl facts place t
  -- any function, class and namespace that is not public
  pub functions : kind_of t ≡ FnDecl → facts.is_public place ≡ false → IsSilentDecl facts place t
  pub classes : kind_of t ≡ ClassDecl → facts.is_public place ≡ false → IsSilentDecl facts place t
  pub namespaces : kind_of t ≡ TsModuleDecl → is_namespace t ≡ true → facts.is_public place ≡ false →
      IsSilentDecl facts place t
  -- any `using` of which nothing is public
  pub usings : kind_of t ≡ UsingDecl → is_public_using facts place t ≡ false → IsSilentDecl facts place t

-- an item `t`
pub record SilentItems (facts : ModuleFacts) (t : Tree) : Type 0 where
  pub decls : IsSilentDecl facts (range_of_node t) t → IsSilent facts t
  pub exported : kind_of t ≡ ExportDecl → IsSilentDecl facts (ExportDecl-span t) (ExportDecl-decl t) →
      IsSilent facts t
  -- any statement that declares and assigns nothing
  pub statements : is_plain_statement t ≡ true → IsSilent facts t
  -- any assignment that is not public
  pub assignments : kind_of t ≡ ExprStmt → kind_of (ExprStmt-expr t) ≡ AssignExpr →
      facts.is_public (AssignExpr-span (ExprStmt-expr t)) ≡ false → IsSilent facts t
  -- any import and export of no public name
  pub imports : kind_of t ≡ ImportDecl → public_specifiers facts (ImportDecl-specifiers t) ≡ [] → IsSilent facts t
  pub exports : kind_of t ≡ NamedExport → public_specifiers facts (NamedExport-specifiers t) ≡ [] → IsSilent facts t
  -- any export of all names, and any alias, that is not public
  pub stars : kind_of t ≡ ExportAll → facts.is_public (ExportAll-span t) ≡ false → IsSilent facts t
  pub aliases : kind_of t ≡ TsImportEqualsDecl → is_require t ≡ false →
      facts.is_public (TsImportEqualsDecl-span t) ≡ false → IsSilent facts t
  -- any default export that is not public
  pub values : kind_of t ≡ ExportDefaultExpr → is_public_value facts t ≡ false → IsSilent facts t
  pub defaults : kind_of t ≡ ExportDefaultDecl → is_default_decl (kind_of (ExportDefaultDecl-decl t)) ≡ true →
      facts.is_public (ExportDefaultDecl-span t) ≡ false → IsSilent facts t

-- of two modules
pub record UnseenItems (r : Renaming) (a b : ModuleFacts) : Type 0 where
  -- any item that goes without a word, and begins at no place of the other module
  pub left : (t : Tree) → IsSilent a t → HasNoPartner r.starts (range_of_node t).start.0 → SameItems r a b (t ∷ []) []
  pub right : (u : Tree) → IsSilent b u → IsNoPartner r.starts (range_of_node u).start.0 → SameItems r a b [] (u ∷ [])
  -- any declarator or specifier that is not public
  pub left_names : (p q : Tree → Bool) (t : Tree) → p t ≡ false → SamePublic p q (SameTree r) (t ∷ []) []
  pub right_names : (p q : Tree → Bool) (u : Tree) → q u ≡ false → SamePublic p q (SameTree r) [] (u ∷ [])
  -- any two values of declarators of the same type
  pub values : (mutability : DeclMutabilityKind) (t u : Tree) → SameHead r a b t u →
      SameGiven r a.bindings b.bindings (declarator_typing mutability t) (declarator_typing mutability u) →
      SameDeclarator r a b mutability t u

pub record HiddenItems (r : Renaming) (a b : ModuleFacts) : Type 0 where
  pub decls : (facts : ModuleFacts) (place : SourceRange) (t : Tree) → SilentDecls facts place t
  pub items : (facts : ModuleFacts) (t : Tree) → SilentItems facts t
  pub unseen : UnseenItems r a b

abbrev pub HidesItems : Type 0
HidesItems = (r : Renaming) (a b : ModuleFacts) → HiddenItems r a b
