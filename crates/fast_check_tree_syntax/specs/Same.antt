-- Equality under a renaming: only positions and scope numbers may differ, and these are partners.
use Rattle.std.specs.Prelude.{Bool, ℕ, List, [], ◌∷◌}
use Rattle.fast_check_tree_syntax.specs.declared.kind.Kind.{Kind}
use Rattle.fast_check_tree_syntax.specs.declared.kind.Word.{Word}
use Rattle.fast_check_tree_syntax.specs.declared.source.SourceRange.{SourceRange}
use Rattle.fast_check_tree_syntax.specs.declared.source.SyntaxContext.{SyntaxContext}
use Rattle.fast_check_tree_syntax.specs.declared.tree.Tree.{Tree, out-Tree}
use Rattle.fast_check_tree_syntax.specs.declared.tree.Tree.TheOpen.{Tree-F}
use Rattle.fast_check_tree_syntax.specs.Moves.{Renaming, IsPair}

pub record SameRange (r : Renaming) (a b : SourceRange) : Type 0 where
  pub start : IsPair r.starts a.start.0 b.start.0
  pub end : IsPair r.ends a.end.0 b.end.0

mutual
  pub data SameTree (r : Renaming) : Tree → Tree → Type 0 where
    at : {t u : Tree} → SameLevel r (out-Tree t) (out-Tree u) → SameTree r t u

  pub data SameLevel (r : Renaming) : Tree-F Tree → Tree-F Tree → Type 0 where
    absent : SameLevel r Tree-F.Absent Tree-F.Absent
    flag : {x : Bool} → SameLevel r (Tree-F.Flag x) (Tree-F.Flag x)
    context : {a b : SyntaxContext} → IsPair r.scopes a.0 b.0 → SameLevel r (Tree-F.Context a) (Tree-F.Context b)
    text : {x : List ℕ} → SameLevel r (Tree-F.Text x) (Tree-F.Text x)
    range : {a b : SourceRange} → SameRange r a b → SameLevel r (Tree-F.Range a) (Tree-F.Range b)
    word : {x : Word} → SameLevel r (Tree-F.Word x) (Tree-F.Word x)
    node : {k : Kind} {ts us : List Tree} → SameTrees r ts us → SameLevel r (Tree-F.Node k ts) (Tree-F.Node k us)

  pub data SameTrees (r : Renaming) : List Tree → List Tree → Type 0 where
    end : SameTrees r [] []
    next : {t u : Tree} {ts us : List Tree} → SameTree r t u → SameTrees r ts us → SameTrees r (t ∷ ts) (u ∷ us)

-- one by one
abbrev pub Each : {A : Type 0} → (A → A → Type 0) → List A → List A → Type 0
Each R [] [] = Unit {0}
Each R (x ∷ xs) (y ∷ ys) = R x y × Each R xs ys
Each R _ _ = ⊥
