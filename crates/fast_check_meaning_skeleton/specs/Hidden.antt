-- Agreement of two sources but for what is hidden: one rule for each part that may differ.
-- All else agrees node by node, under a renaming of positions and scope numbers.
use Rattle.std.specs.Prelude.{◌≡◌, Bool, true, false, not, ◌&&◌, ◌||◌, List, [], ◌∷◌}
use Rattle.std.specs.List.{list_all}
use Rattle.fast_check_tree_syntax.specs.declared.kind.Kind.{Kind}
use Rattle.fast_check_tree_syntax.specs.declared.kind.Kind.TheVariants.{BindingIdent, VarDecl, UsingDecl, ExportDecl, FnDecl}
use Rattle.fast_check_tree_syntax.specs.declared.kind.Kind.TheVariants.{ClassDecl, ExprStmt, AssignExpr, TsModuleDecl}
use Rattle.fast_check_tree_syntax.specs.declared.kind.Kind.TheVariants.{TsNamespaceDecl}
use Rattle.fast_check_tree_syntax.specs.declared.source.SourceRange.{SourceRange}
use Rattle.fast_check_tree_syntax.specs.declared.tree.Tree.{Tree}
use Rattle.fast_check_tree_syntax.specs.Shape.{◌is◌, kind_of, parts}
use Rattle.fast_check_tree_syntax.specs.Moves.{Renaming, IsPair}
use Rattle.fast_check_tree_syntax.specs.Same.{SameTree, SameRange}
use Rattle.fast_check_tree_helpers.specs.declared.literal_type.DeclMutabilityKind.{DeclMutabilityKind}
use Rattle.fast_check_tree_helpers.specs.ranges.Ranges.{range_of_node}
use Rattle.fast_check_tree_forms_programs.specs.Programs.{Module-shebang}
use Rattle.fast_check_tree_forms_programs.specs.ModuleDecls.{ExportDecl-span, ExportDecl-decl}
use Rattle.fast_check_tree_forms_statements.specs.Declarations.{ClassDecl-ident, ClassDecl-declare, ClassDecl-class}
use Rattle.fast_check_tree_forms_statements.specs.Declarations.{FnDecl-ident, FnDecl-declare, FnDecl-function, UsingDecl-span}
use Rattle.fast_check_tree_forms_statements.specs.Declarations.{VarDecl-span, VarDecl-ctxt, VarDecl-kind, VarDecl-declare}
use Rattle.fast_check_tree_forms_statements.specs.Declarations.{VarDecl-decls, VarDeclarator-span, VarDeclarator-name}
use Rattle.fast_check_tree_forms_statements.specs.Declarations.{VarDeclarator-init, VarDeclarator-definite}
use Rattle.fast_check_tree_forms_statements.specs.Statements.{ExprStmt-expr}
use Rattle.fast_check_tree_forms_expressions.specs.Operators.{AssignExpr-span}
use Rattle.fast_check_tree_forms_statements.specs.TsDeclarations.{TsModuleDecl-span, TsModuleDecl-declare}
use Rattle.fast_check_tree_forms_statements.specs.TsDeclarations.{TsModuleDecl-global, TsModuleDecl-namespace}
use Rattle.fast_check_tree_forms_statements.specs.TsDeclarations.{TsModuleDecl-id, TsModuleDecl-body, TsModuleBlock-span}
use Rattle.fast_check_tree_forms_statements.specs.TsDeclarations.{TsNamespaceDecl-span, TsNamespaceDecl-declare}
use Rattle.fast_check_tree_forms_statements.specs.TsDeclarations.{TsNamespaceDecl-global, TsNamespaceDecl-id}
use Rattle.fast_check_tree_forms_statements.specs.TsDeclarations.{TsNamespaceDecl-body}
use Rattle.fast_check_meaning_skeleton.specs.SameValues.{SameBindings, Both, Neither, SameGiven, NoneGiven, SameValue}
use Rattle.fast_check_meaning_skeleton.specs.SameValues.{SameFunction, SameImplementation}
use Rattle.fast_check_meaning_skeleton.specs.SameClasses.{HasNoPartner, IsNoPartner, SameClass, SameAmbientClass}
use Rattle.fast_check_meaning_skeleton.specs.Kinds.{is_standing, is_statement}
use Rattle.fast_check_meaning_skeleton.specs.Mutability.{mutability_of}
use Rattle.fast_check_meaning_skeleton.specs.Namespaces.{is_ambient_module, is_namespace, block_items}
use Rattle.fast_check_meaning_signatures.specs.declared.fault.FaultKind.{FaultKind}
use Rattle.fast_check_meaning_skeleton.specs.declared.rules.ItemRule.TheVariants.{Refused}
use Rattle.fast_check_meaning_skeleton.specs.Rules.{item_rule}
use Rattle.fast_check_meaning_skeleton.specs.SameDefaults.{IsSilentDefault, SameDefault}
use Rattle.fast_check_meaning_skeleton.specs.SameAssignments.{SameAssigned}
use Rattle.fast_check_meaning_skeleton.specs.SameImportsExports.{IsSilentImportExport, SamePublic, SameImportExport}
use Rattle.fast_check_meaning_skeleton.specs.ModuleFacts.{ModuleFacts, inside}
use Rattle.fast_check_meaning_skeleton.specs.Visible.{declared_ident, declarator_typing, is_ambient_statement}
use Rattle.fast_check_meaning_skeleton.specs.Visible.{is_public_declarator}
use Rattle.fast_check_meaning_skeleton.specs.Visible.{is_ambient_class, is_public_using, using_place, items_of}

-- a statement that is no declaration and no assignment
abbrev pub is_plain_statement : Tree → Bool
is_plain_statement t =
    is_statement (kind_of t) || ((kind_of t is ExprStmt) && not (kind_of (ExprStmt-expr t) is AssignExpr))

-- a declaration that goes without a word; `place` is the range of its export, or else its own
pub data IsSilentDecl (facts : ModuleFacts) (place : SourceRange) : Tree → Type 0 where
  -- a variable statement without a public declarator
  variable : {t : Tree} → kind_of t ≡ VarDecl → list_all (λ d. not (is_public_declarator facts d))
      (parts (VarDecl-decls t)) ≡ true →
      IsSilentDecl facts place t
  -- an interface, type alias or enum that is not public
  standing : {t : Tree} → is_standing (kind_of t) ≡ true → facts.is_public place ≡ false → IsSilentDecl facts place t
  -- a function that is not public
  function : {t : Tree} → kind_of t ≡ FnDecl → facts.is_public place ≡ false → IsSilentDecl facts place t
  -- a class that is not public
  class : {t : Tree} → kind_of t ≡ ClassDecl → facts.is_public place ≡ false → IsSilentDecl facts place t
  -- `using` of which nothing is public
  using : {t : Tree} → kind_of t ≡ UsingDecl → is_public_using facts place t ≡ false → IsSilentDecl facts place t
  -- a namespace that is not public, whatever stands in it
  namespace : {t : Tree} → kind_of t ≡ TsModuleDecl → is_namespace t ≡ true → facts.is_public place ≡ false →
      IsSilentDecl facts place t

-- an item that goes without a word
pub data IsSilent (facts : ModuleFacts) : Tree → Type 0 where
  decl : {t : Tree} → IsSilentDecl facts (range_of_node t) t → IsSilent facts t
  -- a statement that declares and assigns nothing
  statement : {t : Tree} → is_plain_statement t ≡ true → IsSilent facts t
  exported : {t : Tree} → kind_of t ≡ ExportDecl → IsSilentDecl facts (ExportDecl-span t) (ExportDecl-decl t) →
      IsSilent facts t
  -- an assignment that is not public
  assigned : {t : Tree} → kind_of t ≡ ExprStmt → kind_of (ExprStmt-expr t) ≡ AssignExpr →
      facts.is_public (AssignExpr-span (ExprStmt-expr t)) ≡ false →
      IsSilent facts t
  import_export : {t : Tree} → IsSilentImportExport facts t → IsSilent facts t
  default : {t : Tree} → IsSilentDefault facts t → IsSilent facts t

module _ (r : Renaming) (a b : ModuleFacts) where
  -- what agrees of two declarators, whatever their types and values
  pub record SameHead (t u : Tree) : Type 0 where
    pub span : SameRange r (VarDeclarator-span t) (VarDeclarator-span u)
    pub names : Both BindingIdent (VarDeclarator-name t) (VarDeclarator-name u)
    pub ident : SameTree r (declared_ident t) (declared_ident u)
    pub definite : VarDeclarator-definite t ≡ VarDeclarator-definite u

  -- declarators that are not ambient
  pub data SameDeclarator (mutability : DeclMutabilityKind) : Tree → Tree → Type 0 where
    -- any values, their presence too
    given : {t u : Tree} → SameHead t u →
        SameGiven r a.bindings b.bindings (declarator_typing mutability t) (declarator_typing mutability u) →
        SameDeclarator mutability t u
    -- values that are to stay, or none
    kept : {t u : Tree} → SameHead t u →
        NoneGiven r a.bindings b.bindings (declarator_typing mutability t) (declarator_typing mutability u) →
        SameValue r a.bindings b.bindings (VarDeclarator-init t) (VarDeclarator-init u) → SameDeclarator mutability t u
    -- any values and types of patterns, which can't be declared
    destructured : {t u : Tree} → Neither BindingIdent (VarDeclarator-name t) (VarDeclarator-name u) →
        SameRange r (range_of_node (VarDeclarator-name t)) (range_of_node (VarDeclarator-name u)) →
        SameDeclarator mutability t u

  -- declarators one by one, those that are not public aside; ambient ones stand as they are written
  abbrev pub SameDeclarators : (Tree → Tree → Type 0) → List Tree → List Tree → Type 0
  SameDeclarators = SamePublic (is_public_declarator a) (is_public_declarator b)

  -- what agrees of two variable statements, whatever their declarators
  pub record SameStatement (t u : Tree) : Type 0 where
    pub kinds : Both VarDecl t u
    pub span : SameRange r (VarDecl-span t) (VarDecl-span u)
    pub ctxt : IsPair r.scopes (VarDecl-ctxt t).0 (VarDecl-ctxt u).0
    pub kind : SameTree r (VarDecl-kind t) (VarDecl-kind u)
    pub declare : VarDecl-declare t ≡ VarDecl-declare u

  -- what agrees of two functions that are not ambient, whatever their signatures
  pub record SameFunctionDecl (p q : SourceRange) (t u : Tree) : Type 0 where
    pub kinds : Both FnDecl t u
    pub is_public : a.is_public p ≡ b.is_public q
    pub is_ambient : a.is_ambient ≡ false
    pub ident : SameTree r (FnDecl-ident t) (FnDecl-ident u)
    pub declare : FnDecl-declare t ≡ FnDecl-declare u

  -- what agrees of two class declarations, whatever their classes
  pub record SameClassDecl (t u : Tree) : Type 0 where
    pub kinds : Both ClassDecl t u
    pub ident : SameTree r (ClassDecl-ident t) (ClassDecl-ident u)
    pub declare : ClassDecl-declare t ≡ ClassDecl-declare u

  -- declarations; `p` and `q` are the ranges of their exports, or else their own
  pub data SameDecl (p q : SourceRange) : Tree → Tree → Type 0 where
    variable : {t u : Tree} → SameStatement t u → is_ambient_statement a t ≡ false →
        SameDeclarators (SameDeclarator (mutability_of (VarDecl-kind t)))
        (parts (VarDecl-decls t)) (parts (VarDecl-decls u)) → SameDecl p q t u
    ambient : {t u : Tree} → SameStatement t u → is_ambient_statement a t ≡ true →
        SameDeclarators (SameTree r) (parts (VarDecl-decls t)) (parts (VarDecl-decls u)) → SameDecl p q t u
    -- interfaces, type aliases and enums stand as they are written
    standing : {t u : Tree} (k : Kind) → Both k t u → is_standing k ≡ true → a.is_public p ≡ b.is_public q →
        SameTree r t u → SameDecl p q t u
    function : {t u : Tree} → SameFunctionDecl p q t u → a.is_implementation p ≡ false → b.is_implementation q ≡ false →
        SameFunction r a.bindings b.bindings (FnDecl-function t) (FnDecl-function u) → SameDecl p q t u
    -- implementations behind overloads
    implementation : {t u : Tree} → SameFunctionDecl p q t u → a.is_implementation p ≡ true →
        b.is_implementation q ≡ true →
        SameImplementation r a.bindings b.bindings (FnDecl-function t) (FnDecl-function u) → SameDecl p q t u
    -- functions where all is ambient
    ambient_function : {t u : Tree} → Both FnDecl t u → a.is_public p ≡ b.is_public q → a.is_ambient ≡ true →
        SameTree r t u → SameDecl p q t u
    class : {t u : Tree} → SameClassDecl t u → a.is_public p ≡ b.is_public q → is_ambient_class a t ≡ false →
        SameClass r a.bindings b.bindings a.is_implementation b.is_implementation (ClassDecl-class t)
        (ClassDecl-class u) → SameDecl p q t u
    -- ambient classes stand as they are written, but for private members of computed keys
    ambient_class : {t u : Tree} → SameClassDecl t u → a.is_public p ≡ b.is_public q → is_ambient_class a t ≡ true →
        SameAmbientClass r a.bindings b.bindings a.is_implementation b.is_implementation (ClassDecl-class t)
        (ClassDecl-class u) → SameDecl p q t u
    -- `using`, whatever it declares
    using : {t u : Tree} → Both UsingDecl t u → SameRange r (UsingDecl-span t) (UsingDecl-span u) →
        is_public_using a p t ≡ is_public_using b q u →
        SameRange r (using_place t) (using_place u) → SameDecl p q t u
    -- `declare global`, whatever stands in it
    global : {t u : Tree} → Both TsModuleDecl t u → TsModuleDecl-global t ≡ true → TsModuleDecl-global u ≡ true →
        SameRange r (TsModuleDecl-span t) (TsModuleDecl-span u) → SameDecl p q t u
    -- `declare module "x"`, or what has no body
    ambient_module : {t u : Tree} → Both TsModuleDecl t u → TsModuleDecl-global t ≡ false →
        TsModuleDecl-global u ≡ false → is_ambient_module t ≡ true →
        is_ambient_module u ≡ true → SameRange r (TsModuleDecl-span t) (TsModuleDecl-span u) →
        SameRange r (range_of_node (TsModuleDecl-id t)) (range_of_node (TsModuleDecl-id u)) → SameDecl p q t u

  -- what agrees of two namespaces beside their bodies
  pub record SameNamespaceHead (p q : SourceRange) (t u : Tree) : Type 0 where
    pub kinds : Both TsModuleDecl t u
    pub namespaces : (is_namespace t ≡ true) × (is_namespace u ≡ true)
    pub public : a.is_public p ≡ b.is_public q
    pub span : SameRange r (TsModuleDecl-span t) (TsModuleDecl-span u)
    pub declare : TsModuleDecl-declare t ≡ TsModuleDecl-declare u
    pub namespace : TsModuleDecl-namespace t ≡ TsModuleDecl-namespace u
    pub id : SameTree r (TsModuleDecl-id t) (TsModuleDecl-id u)

-- what agrees of two that follow a name, as `B.C {}` in `A.B.C {}`, beside what follows them
pub record SameInnerHead (r : Renaming) (t u : Tree) : Type 0 where
  pub kinds : Both TsNamespaceDecl t u
  pub span : SameRange r (TsNamespaceDecl-span t) (TsNamespaceDecl-span u)
  pub declare : TsNamespaceDecl-declare t ≡ TsNamespaceDecl-declare u
  pub global : TsNamespaceDecl-global t ≡ TsNamespaceDecl-global u
  pub id : SameTree r (TsNamespaceDecl-id t) (TsNamespaceDecl-id u)

-- the facts of two bodies come first: those of namespaces are inside of them
module _ (r : Renaming) where
  mutual
    pub data SameItem : ModuleFacts → ModuleFacts → Tree → Tree → Type 0 where
      decl : {a b : ModuleFacts} {t u : Tree} → SameDecl r a b (range_of_node t) (range_of_node u) t u →
          SameItem a b t u
      exported : {a b : ModuleFacts} {t u : Tree} → Both ExportDecl t u →
          SameRange r (ExportDecl-span t) (ExportDecl-span u) →
          SameDecl r a b (ExportDecl-span t) (ExportDecl-span u) (ExportDecl-decl t) (ExportDecl-decl u) →
          SameItem a b t u
      namespace : {a b : ModuleFacts} {t u : Tree} → SameNamespace a b (range_of_node t) (range_of_node u) t u →
          SameItem a b t u
      exported_namespace : {a b : ModuleFacts} {t u : Tree} → Both ExportDecl t u →
          SameRange r (ExportDecl-span t) (ExportDecl-span u) →
          SameNamespace a b (ExportDecl-span t) (ExportDecl-span u) (ExportDecl-decl t) (ExportDecl-decl u) →
          SameItem a b t u
      import_export : {a b : ModuleFacts} {t u : Tree} → SameImportExport r a b t u → SameItem a b t u
      default : {a b : ModuleFacts} {t u : Tree} → SameDefault r a b t u → SameItem a b t u
      assigned : {a b : ModuleFacts} {t u : Tree} → SameAssigned r a b t u → SameItem a b t u
      -- items that no skeleton has, for one reason
      refused : {a b : ModuleFacts} {t u : Tree} (kind : FaultKind) →
          item_rule t ≡ Refused kind → item_rule u ≡ Refused kind →
          SameRange r (range_of_node t) (range_of_node u) → SameItem a b t u

    -- namespaces, whose bodies agree; `p` and `q` are the ranges of their exports, or else their own
    pub data SameNamespace : ModuleFacts → ModuleFacts → SourceRange → SourceRange → Tree → Tree → Type 0 where
      bodies : {a b : ModuleFacts} {p q : SourceRange} {t u : Tree} → SameNamespaceHead r a b p q t u →
          SameBody (inside a t) (inside b u) (TsModuleDecl-body t) (TsModuleDecl-body u) → SameNamespace a b p q t u

    -- blocks, whose items agree, under the same names
    pub data SameBody : ModuleFacts → ModuleFacts → Tree → Tree → Type 0 where
      block : {a b : ModuleFacts} {t u : Tree} → Neither TsNamespaceDecl t u →
          SameRange r (TsModuleBlock-span t) (TsModuleBlock-span u) →
          SameItems a b (block_items t) (block_items u) → SameBody a b t u
      inner : {a b : ModuleFacts} {t u : Tree} → SameInnerHead r t u →
          SameBody a b (TsNamespaceDecl-body t) (TsNamespaceDecl-body u) → SameBody a b t u

    -- items one by one, the silent ones aside; where a silent one begins has no partner
    pub data SameItems : ModuleFacts → ModuleFacts → List Tree → List Tree → Type 0 where
      end : {a b : ModuleFacts} → SameItems a b [] []
      left : {a b : ModuleFacts} {t : Tree} {ts us : List Tree} → IsSilent a t →
          HasNoPartner r.starts (range_of_node t).start.0 → SameItems a b ts us →
          SameItems a b (t ∷ ts) us
      right : {a b : ModuleFacts} {u : Tree} {ts us : List Tree} → IsSilent b u →
          IsNoPartner r.starts (range_of_node u).start.0 → SameItems a b ts us →
          SameItems a b ts (u ∷ us)
      next : {a b : ModuleFacts} {t u : Tree} {ts us : List Tree} → SameItem a b t u → SameItems a b ts us →
          SameItems a b (t ∷ ts) (u ∷ us)

module _ (r : Renaming) (a b : ModuleFacts) where
  -- two modules that agree but for what is hidden
  pub record AgreeHidden (t u : Tree) : Type 0 where
    -- what is known of all names agrees, under the renaming of scope numbers
    pub bindings : SameBindings r a.bindings b.bindings
    pub is_ambient : a.is_ambient ≡ b.is_ambient
    pub items : SameItems r a b (items_of t) (items_of u)
    pub shebang : SameTree r (Module-shebang t) (Module-shebang u)
