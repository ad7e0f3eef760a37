-- Agreement of imports and of exports of names. What is not public of them is hidden.
use Rattle.std.specs.Prelude.{◌≡◌, Bool, false, List, [], ◌∷◌}
use Rattle.fast_check_tree_syntax.specs.declared.kind.Kind.TheVariants.{ImportDecl, NamedExport, ExportAll}
use Rattle.fast_check_tree_syntax.specs.declared.kind.Kind.TheVariants.{TsImportEqualsDecl}
use Rattle.fast_check_tree_syntax.specs.declared.tree.Tree.{Tree}
use Rattle.fast_check_tree_syntax.specs.Shape.{kind_of, parts, is_absent}
use Rattle.fast_check_tree_syntax.specs.Moves.{Renaming}
use Rattle.fast_check_tree_syntax.specs.Same.{SameTree, SameRange}
use Rattle.fast_check_tree_forms_programs.specs.Literals.{Str-value}
use Rattle.fast_check_tree_forms_programs.specs.ModuleDecls.{ImportDecl-span, ImportDecl-specifiers, ImportDecl-src}
use Rattle.fast_check_tree_forms_programs.specs.ModuleDecls.{ImportDecl-type_only, ImportDecl-with, ImportDecl-phase}
use Rattle.fast_check_tree_forms_programs.specs.ModuleDecls.{NamedExport-span, NamedExport-specifiers, NamedExport-src}
use Rattle.fast_check_tree_forms_programs.specs.ModuleDecls.{NamedExport-type_only, NamedExport-with, ExportAll-span}
use Rattle.fast_check_tree_forms_programs.specs.ModuleDecls.{ExportAll-src, ExportAll-type_only, ExportAll-with}
use Rattle.fast_check_tree_forms_programs.specs.ModuleDecls.{TsImportEqualsDecl-span}
use Rattle.fast_check_meaning_skeleton.specs.SameValues.{Both}
use Rattle.fast_check_meaning_skeleton.specs.ImportsExports.{is_public_specifier, public_specifiers}
use Rattle.fast_check_meaning_skeleton.specs.Rules.{is_require}
use Rattle.fast_check_meaning_skeleton.specs.ModuleFacts.{ModuleFacts}

-- an import or an export of names that goes without a word
pub data IsSilentImportExport (facts : ModuleFacts) : Tree → Type 0 where
  import : {t : Tree} → kind_of t ≡ ImportDecl → public_specifiers facts (ImportDecl-specifiers t) ≡ [] →
      IsSilentImportExport facts t
  export : {t : Tree} → kind_of t ≡ NamedExport → public_specifiers facts (NamedExport-specifiers t) ≡ [] →
      IsSilentImportExport facts t
  all : {t : Tree} → kind_of t ≡ ExportAll → facts.is_public (ExportAll-span t) ≡ false → IsSilentImportExport facts t
  alias : {t : Tree} → kind_of t ≡ TsImportEqualsDecl → is_require t ≡ false →
      facts.is_public (TsImportEqualsDecl-span t) ≡ false → IsSilentImportExport facts t

-- two lists one by one, what is not public of either aside
pub data SamePublic (p q : Tree → Bool) (Same : Tree → Tree → Type 0) : List Tree → List Tree → Type 0 where
  end : SamePublic p q Same [] []
  left : {t : Tree} {ts us : List Tree} → p t ≡ false → SamePublic p q Same ts us → SamePublic p q Same (t ∷ ts) us
  right : {u : Tree} {ts us : List Tree} → q u ≡ false → SamePublic p q Same ts us → SamePublic p q Same ts (u ∷ us)
  next : {t u : Tree} {ts us : List Tree} → p t ≡ q u → Same t u → SamePublic p q Same ts us →
      SamePublic p q Same (t ∷ ts) (u ∷ us)

module _ (r : Renaming) (a b : ModuleFacts) where
  -- specifiers of two imports or exports
  abbrev pub SameSpecifiers : Tree → Tree → Type 0
  SameSpecifiers t u = SamePublic (is_public_specifier a) (is_public_specifier b) (SameTree r) (parts t) (parts u)

  -- the same source or none, and for one the same text stands in both skeletons
  pub record SameSource (t u : Tree) : Type 0 where
    pub tree : SameTree r t u
    pub relative : is_absent t ≡ false → a.relative (Str-value t) ≡ b.relative (Str-value u)

  pub record SameImport (t u : Tree) : Type 0 where
    pub kinds : Both ImportDecl t u
    pub span : SameRange r (ImportDecl-span t) (ImportDecl-span u)
    pub specifiers : SameSpecifiers (ImportDecl-specifiers t) (ImportDecl-specifiers u)
    pub src : SameSource (ImportDecl-src t) (ImportDecl-src u)
    pub type_only : ImportDecl-type_only t ≡ ImportDecl-type_only u
    pub with : SameTree r (ImportDecl-with t) (ImportDecl-with u)
    pub phase : ImportDecl-phase t ≡ ImportDecl-phase u

  pub record SameNamedExport (t u : Tree) : Type 0 where
    pub kinds : Both NamedExport t u
    pub span : SameRange r (NamedExport-span t) (NamedExport-span u)
    pub specifiers : SameSpecifiers (NamedExport-specifiers t) (NamedExport-specifiers u)
    pub src : SameSource (NamedExport-src t) (NamedExport-src u)
    pub type_only : NamedExport-type_only t ≡ NamedExport-type_only u
    pub with : SameTree r (NamedExport-with t) (NamedExport-with u)

  -- `export * from source`
  pub record SameExportAll (t u : Tree) : Type 0 where
    pub kinds : Both ExportAll t u
    pub is_public : a.is_public (ExportAll-span t) ≡ b.is_public (ExportAll-span u)
    pub span : SameRange r (ExportAll-span t) (ExportAll-span u)
    pub src : SameSource (ExportAll-src t) (ExportAll-src u)
    pub type_only : ExportAll-type_only t ≡ ExportAll-type_only u
    pub with : SameTree r (ExportAll-with t) (ExportAll-with u)

  pub data SameImportExport : Tree → Tree → Type 0 where
    import : {t u : Tree} → SameImport t u → SameImportExport t u
    export : {t u : Tree} → SameNamedExport t u → SameImportExport t u
    all : {t u : Tree} → SameExportAll t u → SameImportExport t u
    -- `import A = B.C` stands as it is written
    alias : {t u : Tree} → Both TsImportEqualsDecl t u → is_require t ≡ false → is_require u ≡ false →
        a.is_public (TsImportEqualsDecl-span t) ≡ b.is_public (TsImportEqualsDecl-span u) → SameTree r t u →
        SameImportExport t u
