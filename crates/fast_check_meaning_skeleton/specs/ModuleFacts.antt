-- What the skeleton of a module depends on beside its tree.
use Rattle.std.specs.Prelude.{ℕ, Bool, ◌||◌, Option, List}
use Rattle.fast_check_tree_syntax.specs.declared.source.SourceRange.{SourceRange}
use Rattle.fast_check_tree_syntax.specs.declared.tree.Tree.{Tree}
use Rattle.fast_check_tree_forms_statements.specs.TsDeclarations.{TsModuleDecl-declare}
use Rattle.fast_check_meaning_signatures.specs.Bindings.{Bindings}
use Rattle.fast_check_meaning_expandos.specs.Objects.{Objects}

pub record ModuleFacts : Type 0 where
  -- whether a range is public, so that what stands there may be seen from outside
  pub is_public : SourceRange → Bool
  -- whether the function of a public range is an implementation behind overloads, so that its own signature is not seen
  pub is_implementation : SourceRange → Bool
  -- what is known of the names of the module
  pub bindings : Bindings
  -- whether all that stands here is ambient: in a declaration file (`.d.ts`, `.d.mts`, `.d.cts`), or inside of a
  -- namespace with `declare`
  pub is_ambient : Bool
  -- the text that stands in a skeleton for a source of imports or exports, where it is another one: a text that begins
  -- with `.`, where the graph resolves it
  pub relative : List ℕ → Option (List ℕ)
  -- what is known of the objects of expando properties
  pub objects : Objects

-- the same, but for whether all is ambient
abbrev pub with_ambient : Bool → ModuleFacts → ModuleFacts
with_ambient is_ambient facts = record {
  is_public = facts.is_public;
  is_implementation = facts.is_implementation;
  bindings = facts.bindings;
  is_ambient = is_ambient;
  relative = facts.relative;
  objects = facts.objects;
}

-- what surrounds the items of a namespace: inside of one with `declare` all is ambient
abbrev pub inside : ModuleFacts → Tree → ModuleFacts
inside facts decl = with_ambient (facts.is_ambient || TsModuleDecl-declare decl) facts
