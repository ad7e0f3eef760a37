-- The grammar of skeletons: what a type checker finds there, whatever the source was.
use Rattle.std.specs.Prelude.{◌≡◌, Bool, true, false, ◌||◌, IsTrue, ◌⊎◌, List, [], ◌∷◌}
use Rattle.fast_check_tree_syntax.specs.declared.kind.Kind.TheVariants.{ImportDecl, NamedExport, ExportAll}
use Rattle.fast_check_tree_syntax.specs.declared.kind.Kind.TheVariants.{TsImportEqualsDecl, ExportDefaultExpr}
use Rattle.fast_check_tree_syntax.specs.declared.kind.Kind.TheVariants.{ExportDefaultDecl, ClassExpr, FnExpr}
use Rattle.fast_check_tree_syntax.specs.declared.kind.Kind.TheVariants.{TsInterfaceDecl, Module, ExportDecl, VarDecl}
use Rattle.fast_check_tree_syntax.specs.declared.kind.Kind.TheVariants.{VarDeclarator, FnDecl, ClassDecl, BindingIdent}
use Rattle.fast_check_tree_syntax.specs.declared.kind.Kind.TheVariants.{TsModuleDecl, TsModuleBlock, TsNamespaceDecl}
use Rattle.fast_check_meaning_signatures.specs.Bindings.{Bindings}
use Rattle.fast_check_tree_syntax.specs.declared.tree.Tree.{Tree}
use Rattle.fast_check_tree_syntax.specs.Shape.{kind_of, parts, is_absent, OfAll}
use Rattle.fast_check_tree_helpers.specs.Builders.{never_value}
use Rattle.fast_check_tree_forms_programs.specs.Names.{BindingIdent-type_ann}
use Rattle.fast_check_tree_forms_programs.specs.Programs.{Module-body}
use Rattle.fast_check_tree_forms_programs.specs.ModuleDecls.{ExportDecl-decl, ExportDefaultExpr-expr, ExportDefaultDecl-decl}
use Rattle.fast_check_tree_forms_expressions.specs.Expressions.{ClassExpr-class, FnExpr-function}
use Rattle.fast_check_meaning_skeleton.specs.TypedGrammar.{IsLeavable, IsTypedFunction}
use Rattle.fast_check_meaning_skeleton.specs.ClassGrammar.{IsAmbientClass, IsTypedClass}
use Rattle.fast_check_tree_forms_statements.specs.Declarations.{ClassDecl-declare, ClassDecl-class, FnDecl-function}
use Rattle.fast_check_tree_forms_statements.specs.Declarations.{VarDecl-declare, VarDecl-decls, VarDeclarator-name}
use Rattle.fast_check_tree_forms_statements.specs.Declarations.{VarDeclarator-init}
use Rattle.fast_check_tree_forms_statements.specs.TsDeclarations.{TsModuleDecl-declare, TsModuleDecl-body, TsModuleBlock-body}
use Rattle.fast_check_tree_forms_statements.specs.TsDeclarations.{TsNamespaceDecl-body}
use Rattle.fast_check_meaning_skeleton.specs.Kinds.{is_standing}
use Rattle.fast_check_meaning_skeleton.specs.Namespaces.{is_namespace}
use Rattle.fast_check_meaning_skeleton.specs.Rules.{is_require}

-- a value behind a written type is `{} as never`; else there is one that gives the type
abbrev pub HasTypedValue : Bindings → Tree → Tree → Type 0
HasTypedValue bindings type value =
    ((is_absent type ≡ false) × (value ≡ never_value)) ⊎ ((is_absent value ≡ false) × IsLeavable bindings value)

-- an import or an export of names, `export *`, or `import A = B.C`
abbrev pub IsImportOrExport : Tree → Type 0
IsImportOrExport item =
    (kind_of item ≡ ImportDecl) ⊎ ((kind_of item ≡ NamedExport) ⊎ ((kind_of item ≡ ExportAll) ⊎
    ((kind_of item ≡ TsImportEqualsDecl) × (is_require item ≡ false))))

-- `bindings` is what is known of the names of the module
module _ (bindings : Bindings) where
  -- a declarator of an identifier with a written type, and `{} as never` for its value, or with a value that gives the
  -- type
  pub record IsTypedDeclarator (d : Tree) : Type 0 where
    pub kind : kind_of d ≡ VarDeclarator
    pub name : kind_of (VarDeclarator-name d) ≡ BindingIdent
    pub value : HasTypedValue bindings (BindingIdent-type_ann (VarDeclarator-name d)) (VarDeclarator-init d)

  -- a variable statement of typed declarators; an ambient one stands as it was written
  pub record IsTypedStatement (is_ambient : Bool) (statement : Tree) : Type 0 where
    pub kind : kind_of statement ≡ VarDecl
    pub declarators : IsTrue (is_ambient || VarDecl-declare statement) ⊎
        OfAll IsTypedDeclarator (parts (VarDecl-decls statement))

  -- a function with a written return type, or without a body; where all is ambient it stands as it was written
  pub record IsTypedFunctionDecl (is_ambient : Bool) (decl : Tree) : Type 0 where
    pub kind : kind_of decl ≡ FnDecl
    pub function : IsTrue is_ambient ⊎ IsTypedFunction bindings (FnDecl-function decl)

  -- a class, of typed members; an ambient one stands as it was written, but for private members of computed keys
  pub record IsTypedClassDecl (is_ambient : Bool) (decl : Tree) : Type 0 where
    pub kind : kind_of decl ≡ ClassDecl
    pub class : (IsTrue (is_ambient || ClassDecl-declare decl) × IsAmbientClass (ClassDecl-class decl)) ⊎
        IsTypedClass bindings (ClassDecl-class decl)

  -- a declaration of a skeleton: a variable statement, a function, a class, or an interface, type alias or enum, which
  -- stands as it was written
  abbrev pub IsTypedDecl : Bool → Tree → Type 0
  IsTypedDecl is_ambient decl =
      IsTypedStatement is_ambient decl ⊎ (IsTypedFunctionDecl is_ambient decl ⊎ (IsTypedClassDecl is_ambient decl ⊎
      (is_standing (kind_of decl) ≡ true)))

  -- a default export of a declaration: a class of typed members, a function with a written return type, or without a
  -- body, or an interface. Where all is ambient a function stands as it was written.
  abbrev pub IsTypedDefaultDecl : Bool → Tree → Type 0
  IsTypedDefaultDecl is_ambient decl =
      ((kind_of decl ≡ ClassExpr) × IsTypedClass bindings (ClassExpr-class decl)) ⊎
      (((kind_of decl ≡ FnExpr) × (IsTrue is_ambient ⊎ IsTypedFunction bindings (FnExpr-function decl))) ⊎
      (kind_of decl ≡ TsInterfaceDecl))

  -- a default export: a value that gives its type, or a declaration
  abbrev pub IsTypedDefault : Bool → Tree → Type 0
  IsTypedDefault is_ambient item =
      ((kind_of item ≡ ExportDefaultExpr) × IsLeavable bindings (ExportDefaultExpr-expr item)) ⊎
      ((kind_of item ≡ ExportDefaultDecl) × IsTypedDefaultDecl is_ambient (ExportDefaultDecl-decl item))

  -- an item that is no namespace: a declaration, exported or not, a default export, or what leads to other modules
  abbrev pub IsPlainItem : Bool → Tree → Type 0
  IsPlainItem is_ambient item =
      IsTypedDecl is_ambient item ⊎ (((kind_of item ≡ ExportDecl) × IsTypedDecl is_ambient (ExportDecl-decl item)) ⊎
      (IsTypedDefault is_ambient item ⊎ IsImportOrExport item))

  mutual
    -- an item of a skeleton; a namespace is one too, exported or not
    pub data IsTypedItem : Bool → Tree → Type 0 where
      plain : {is_ambient : Bool} {item : Tree} → IsPlainItem is_ambient item → IsTypedItem is_ambient item
      declared : {is_ambient : Bool} {item : Tree} → IsTypedNamespace is_ambient item → IsTypedItem is_ambient item
      exported : {is_ambient : Bool} {item : Tree} → kind_of item ≡ ExportDecl →
          IsTypedNamespace is_ambient (ExportDecl-decl item) →
          IsTypedItem is_ambient item

    -- a namespace; inside of one with `declare` all is ambient
    pub data IsTypedNamespace : Bool → Tree → Type 0 where
      namespace : {is_ambient : Bool} {decl : Tree} → kind_of decl ≡ TsModuleDecl → is_namespace decl ≡ true →
          IsTypedBody (is_ambient || TsModuleDecl-declare decl) (TsModuleDecl-body decl) →
          IsTypedNamespace is_ambient decl

    -- a block, or names and a block
    pub data IsTypedBody : Bool → Tree → Type 0 where
      block : {is_ambient : Bool} {body : Tree} → kind_of body ≡ TsModuleBlock →
          AllTypedItems is_ambient (parts (TsModuleBlock-body body)) →
          IsTypedBody is_ambient body
      inner : {is_ambient : Bool} {body : Tree} → kind_of body ≡ TsNamespaceDecl →
          IsTypedBody is_ambient (TsNamespaceDecl-body body) →
          IsTypedBody is_ambient body

    pub data AllTypedItems : Bool → List Tree → Type 0 where
      no_items : {is_ambient : Bool} → AllTypedItems is_ambient []
      next_item : {is_ambient : Bool} {item : Tree} {items : List Tree} → IsTypedItem is_ambient item →
          AllTypedItems is_ambient items →
          AllTypedItems is_ambient (item ∷ items)

  -- a skeleton: a module of nothing but such items
  pub record IsSkeleton (is_ambient : Bool) (program : Tree) : Type 0 where
    pub kind : kind_of program ≡ Module
    pub items : AllTypedItems is_ambient (parts (Module-body program))
