-- Agreement of default exports but for what is hidden.
use Rattle.std.specs.Prelude.{◌≡◌, true, false}
use Rattle.fast_check_tree_syntax.specs.declared.kind.Kind.{Kind}
use Rattle.fast_check_tree_syntax.specs.declared.kind.Kind.TheVariants.{ExportDefaultExpr, ExportDefaultDecl, ClassExpr}
use Rattle.fast_check_tree_syntax.specs.declared.kind.Kind.TheVariants.{FnExpr, TsInterfaceDecl}
use Rattle.fast_check_tree_syntax.specs.declared.tree.Tree.{Tree}
use Rattle.fast_check_tree_syntax.specs.Shape.{kind_of}
use Rattle.fast_check_tree_syntax.specs.Moves.{Renaming}
use Rattle.fast_check_tree_syntax.specs.Same.{SameTree, SameRange}
use Rattle.fast_check_tree_forms_expressions.specs.Expressions.{ClassExpr-ident, ClassExpr-class, FnExpr-ident}
use Rattle.fast_check_tree_forms_expressions.specs.Expressions.{FnExpr-function}
use Rattle.fast_check_tree_forms_programs.specs.ModuleDecls.{ExportDefaultExpr-span, ExportDefaultExpr-expr}
use Rattle.fast_check_tree_forms_programs.specs.ModuleDecls.{ExportDefaultDecl-span, ExportDefaultDecl-decl}
use Rattle.fast_check_meaning_skeleton.specs.SameValues.{Both, SameExpr, SameFunction, SameImplementation}
use Rattle.fast_check_meaning_skeleton.specs.SameClasses.{SameClass}
use Rattle.fast_check_meaning_skeleton.specs.Defaults.{is_public_value}
use Rattle.fast_check_meaning_skeleton.specs.Kinds.{is_default_decl}
use Rattle.fast_check_meaning_skeleton.specs.ModuleFacts.{ModuleFacts}

-- a default export that goes without a word
pub data IsSilentDefault (facts : ModuleFacts) : Tree → Type 0 where
  value : {t : Tree} → kind_of t ≡ ExportDefaultExpr → is_public_value facts t ≡ false → IsSilentDefault facts t
  decl : {t : Tree} → kind_of t ≡ ExportDefaultDecl → is_default_decl (kind_of (ExportDefaultDecl-decl t)) ≡ true →
      facts.is_public (ExportDefaultDecl-span t) ≡ false → IsSilentDefault facts t

module _ (r : Renaming) (a b : ModuleFacts) where
  -- what agrees of two default exports of declarations of a kind
  pub record SameDefaultDecl (k : Kind) (t u : Tree) : Type 0 where
    pub kinds : Both ExportDefaultDecl t u
    pub decls : Both k (ExportDefaultDecl-decl t) (ExportDefaultDecl-decl u)
    pub span : SameRange r (ExportDefaultDecl-span t) (ExportDefaultDecl-span u)
    pub is_public : a.is_public (ExportDefaultDecl-span t) ≡ b.is_public (ExportDefaultDecl-span u)

  -- of two functions that are not ambient, whatever their signatures
  pub record SameDefaultFunction (t u : Tree) : Type 0 where
    pub head : SameDefaultDecl FnExpr t u
    pub is_ambient : a.is_ambient ≡ false
    pub ident : SameTree r (FnExpr-ident (ExportDefaultDecl-decl t)) (FnExpr-ident (ExportDefaultDecl-decl u))

  pub data SameDefault : Tree → Tree → Type 0 where
    value : {t u : Tree} → Both ExportDefaultExpr t u →
        SameRange r (ExportDefaultExpr-span t) (ExportDefaultExpr-span u) →
        is_public_value a t ≡ is_public_value b u → SameExpr r a.bindings b.bindings (ExportDefaultExpr-expr t)
        (ExportDefaultExpr-expr u) →
        SameDefault t u
    class : {t u : Tree} → SameDefaultDecl ClassExpr t u →
        SameTree r (ClassExpr-ident (ExportDefaultDecl-decl t)) (ClassExpr-ident (ExportDefaultDecl-decl u)) →
        SameClass r a.bindings b.bindings a.is_implementation b.is_implementation
        (ClassExpr-class (ExportDefaultDecl-decl t)) (ClassExpr-class (ExportDefaultDecl-decl u)) → SameDefault t u
    function : {t u : Tree} → SameDefaultFunction t u →
        a.is_implementation (ExportDefaultDecl-span t) ≡ false →
        b.is_implementation (ExportDefaultDecl-span u) ≡ false →
        SameFunction r a.bindings b.bindings (FnExpr-function (ExportDefaultDecl-decl t))
        (FnExpr-function (ExportDefaultDecl-decl u)) → SameDefault t u
    -- implementations behind overloads
    implementation : {t u : Tree} → SameDefaultFunction t u →
        a.is_implementation (ExportDefaultDecl-span t) ≡ true → b.is_implementation (ExportDefaultDecl-span u) ≡ true →
        SameImplementation r a.bindings b.bindings (FnExpr-function (ExportDefaultDecl-decl t))
        (FnExpr-function (ExportDefaultDecl-decl u)) →
        SameDefault t u
    -- where all is ambient functions stand as they are written
    ambient_function : {t u : Tree} → SameDefaultDecl FnExpr t u → a.is_ambient ≡ true →
        SameTree r (ExportDefaultDecl-decl t) (ExportDefaultDecl-decl u) → SameDefault t u
    -- and interfaces
    interface : {t u : Tree} →
        SameDefaultDecl TsInterfaceDecl t u → SameTree r (ExportDefaultDecl-decl t) (ExportDefaultDecl-decl u) →
        SameDefault t u
