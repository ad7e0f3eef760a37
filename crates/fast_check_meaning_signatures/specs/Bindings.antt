-- What is known of the names of a module.
use Rattle.std.specs.Prelude.{Bool}
use Rattle.fast_check_tree_syntax.specs.declared.atom.Id.{Id}
use Rattle.fast_check_tree_syntax.specs.declared.source.SyntaxContext.{SyntaxContext}
use Rattle.fast_check_tree_syntax.specs.declared.tree.Tree.{Tree}
use Rattle.fast_check_tree_forms_programs.specs.Names.{Ident-sym, Ident-ctxt}

pub record Bindings : Type 0 where
  -- the scope number of the names that nothing in the module binds
  pub unresolved : SyntaxContext
  -- whether a name is that of a class declaration without type parameters
  pub is_plain_class : Id → Bool

-- an identifier, as it is resolved: by its text and its scope number
abbrev pub id_of : Tree → Id
id_of ident = record { 0 = Ident-sym ident; 1 = Ident-ctxt ident }
