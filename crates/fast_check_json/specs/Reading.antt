-- What a field of a form is: a name, and what it reads of a node.
use Prim.Native.String.{String}
use Rattle.std.specs.Prelude.{ℕ, List, Bool, codes}
use Rattle.fast_check_tree_syntax.specs.declared.source.SourceRange.{SourceRange}
use Rattle.fast_check_tree_syntax.specs.declared.source.SyntaxContext.{SyntaxContext}
use Rattle.fast_check_tree_syntax.specs.declared.tree.Tree.{Tree}

-- what a field holds: a part of the node, or what such a part is as a range, a scope number, a flag or a text
pub data Content : Type 0 where
  Part : Tree → Content
  Range : SourceRange → Content
  Scope : SyntaxContext → Content
  Flag : Bool → Content
  Text : List ℕ → Content

pub record Field : Type 0 where
  pub name : List ℕ
  pub reading : Tree → Content

abbrev pub tree : String → (Tree → Tree) → Field
tree name reading = record { name = codes name; reading = λ t. Part (reading t) }

abbrev pub range : String → (Tree → SourceRange) → Field
range name reading = record { name = codes name; reading = λ t. Range (reading t) }

abbrev pub scope : String → (Tree → SyntaxContext) → Field
scope name reading = record { name = codes name; reading = λ t. Scope (reading t) }

abbrev pub flag : String → (Tree → Bool) → Field
flag name reading = record { name = codes name; reading = λ t. Flag (reading t) }

abbrev pub text : String → (Tree → List ℕ) → Field
text name reading = record { name = codes name; reading = λ t. Text (reading t) }
