-- What is seen of a source: what is hidden is gone, or stands as what may be read of it.
use Rattle.std.specs.Prelude.{Bool, Option, List, [], ◌∷◌}
use Rattle.fast_check_tree_syntax.specs.declared.kind.Kind.{Kind}
use Rattle.fast_check_tree_syntax.specs.declared.source.SourceRange.{SourceRange}
use Rattle.fast_check_tree_syntax.specs.declared.source.SyntaxContext.{SyntaxContext}
use Rattle.fast_check_tree_syntax.specs.declared.tree.Tree.{Tree}
use Rattle.fast_check_tree_syntax.specs.declared.tree.Tree as tree
use Rattle.fast_check_meaning_signatures.specs.declared.fault.FaultKind.{FaultKind}

-- a declarator of an identifier, but for its value
pub record DeclaratorHead : Type 0 where
  pub span : SourceRange
  pub ident : Tree
  pub definite : Bool

-- a parameter with a default, but for the default: what stands left of it, and the place where the type would be
-- missing
pub record DefaultHead : Type 0 where
  pub span : SourceRange
  pub left : Tree
  pub place : SourceRange

-- a function, but for its return type and its parameters; of its body no more than whether it is not there
pub record FunctionHead : Type 0 where
  pub span : SourceRange
  pub ctxt : SyntaxContext
  pub lacks_body : Bool
  pub type_params : Tree

-- an arrow, but for its return type, its parameters and its body
pub record ArrowHead : Type 0 where
  pub span : SourceRange
  pub ctxt : SyntaxContext
  pub is_generator : Bool
  pub type_params : Tree

-- a class, but for its superclass and its members
pub record ClassHead : Type 0 where
  pub span : SourceRange
  pub ctxt : SyntaxContext
  pub is_abstract : Bool
  pub type_params : Tree
  pub super_type_params : Tree
  pub implements : Tree

-- a property of a class, but for its type and its value, and for `declare` and `!`, which go by these
pub record PropertyHead : Type 0 where
  pub span : SourceRange
  pub key : Tree
  pub is_static : Bool
  pub accessibility : Tree
  pub is_abstract : Bool
  pub is_optional : Bool
  pub is_override : Bool
  pub readonly : Bool

mutual
  pub data Seen : Type 0 where
    -- a tree that counts as it is written
    written : Tree → Seen
    -- a node of a kind round its parts, which stays where they all do
    round : Kind → Seens → Seen
    -- a list, whose items stay each for itself
    listed : Seens → Seen
    -- a declarator whose value gives its type
    declarator : DeclaratorHead → (value : Seen) → Seen
    -- a parameter whose default gives its type
    default : DefaultHead → (value : Seen) → Seen
    -- a function, with its return type
    function : FunctionHead → (type : Seen) → (params : Seens) → Seen
    -- an arrow, with its return type
    typed_arrow : ArrowHead → (type : Seen) → (params : Seens) → Seen
    -- an arrow whose value gives its return type; where that may not stay, the type is missing at the place
    valued_arrow : ArrowHead → (is_async : Bool) → (place : SourceRange) → (value : Seen) → (params : Seens) → Seen
    -- a class, with its superclass and its members
    class : ClassHead → (superclass : Seen) → (members : Seens) → Seen
    -- a property whose value gives its type
    property : PropertyHead → (value : Seen) → Seen
    -- the default export of an expression, which gives its type
    default_export : SourceRange → (value : Seen) → Seen
    -- a value that is tested, and goes; where it may not stay, the type is missing at the place, if there is one
    tested : Option SourceRange → (value : Seen) → Seen
    -- what no skeleton can have, by what is wrong with it and where
    faulty : FaultKind → SourceRange → Seen
    -- an expression that may not stay
    refused : Seen

  pub data Seens : Type 0 where
    end : Seens
    also : Seen → Seens → Seens

abbrev pub seens : List Seen → Seens
seens [] = end
seens (s ∷ ss) = also s (seens ss)

-- a range, a scope number and a flag
abbrev pub range : SourceRange → Seen
range r = written (tree.Range r)

abbrev pub scope : SyntaxContext → Seen
scope c = written (tree.Context c)

abbrev pub flag : Bool → Seen
flag f = written (tree.Flag f)
