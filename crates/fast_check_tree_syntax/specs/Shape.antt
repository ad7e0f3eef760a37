-- One level of a tree: its kind and parts, or what a leaf holds.
use Rattle.std.specs.Prelude.{◌≡◌, ℕ, Bool, true, false, List, [], ◌∷◌, slice_get, unwrap_or, refl}
use Rattle.std.proofs.Common.{sym}
use denote.Enum.Bare.{sameb, same_true, false_same}
use Rattle.fast_check_tree_syntax.specs.declared.kind.Kind.{Kind}
use Rattle.fast_check_tree_syntax.specs.contracts.kind.Kind.{the_type}
use Rattle.fast_check_tree_syntax.specs.declared.kind.Kind.TheVariants.{Leaf, List as List'}
use Rattle.fast_check_tree_syntax.specs.declared.kind.Word.{Word}
use Rattle.fast_check_tree_syntax.specs.contracts.kind.Word.{the_type as word_type}
use Rattle.fast_check_tree_syntax.specs.declared.source.SourceRange.{SourceRange}
use Rattle.fast_check_tree_syntax.specs.declared.source.SyntaxContext.{SyntaxContext}
use Rattle.fast_check_tree_syntax.specs.declared.tree.Tree.{Tree, out-Tree, Absent, Node}
use Rattle.fast_check_tree_syntax.specs.declared.tree.Tree.TheOpen.{Tree-F}

abbrev pub kind_at : {X : Type 0} → Tree-F X → Kind
kind_at (Tree-F.Node kind parts) = kind
kind_at _ = Leaf

abbrev pub parts_at : {X : Type 0} → Tree-F X → List X
parts_at (Tree-F.Node kind parts) = parts
parts_at _ = []

-- the kind of a node, or `Leaf`
abbrev pub kind_of : Tree → Kind
kind_of t = kind_at (out-Tree t)

-- the parts of a node, in order
abbrev pub parts : Tree → List Tree
parts t = parts_at (out-Tree t)

-- the part of a node at a place, or an empty option where there is none
abbrev pub part : ℕ → Tree → Tree
part i t = unwrap_or (slice_get (parts t) i) Absent

-- a node of a kind and its parts
abbrev pub node : Kind → List Tree → Tree
node kind parts = Node kind parts

-- a list of items
abbrev pub list : List Tree → Tree
list items = Node List' items

abbrev pub text_at : Tree-F Tree → List ℕ
text_at (Tree-F.Text text) = text
text_at _ = []

-- the bytes of the text that a tree is, or none
abbrev pub text_of : Tree → List ℕ
text_of t = text_at (out-Tree t)

abbrev pub flag_at : Tree-F Tree → Bool
flag_at (Tree-F.Flag flag) = flag
flag_at _ = false

-- the flag that a tree is, or false
abbrev pub flag_of : Tree → Bool
flag_of t = flag_at (out-Tree t)

abbrev pub context_at : Tree-F Tree → SyntaxContext
context_at (Tree-F.Context context) = context
context_at _ = record { 0 = 0 }

-- the scope number that a tree is, or 0
abbrev pub context_of : Tree → SyntaxContext
context_of t = context_at (out-Tree t)

-- the range of a node that no text stands for
abbrev pub none_range : SourceRange
none_range = record { start = record { 0 = 0 }; end = record { 0 = 0 } }

abbrev pub range_at : Tree-F Tree → SourceRange
range_at (Tree-F.Range range) = range
range_at _ = none_range

-- the range that a tree is, or none
abbrev pub range_of : Tree → SourceRange
range_of t = range_at (out-Tree t)

abbrev pub word_is_at : Word → Tree-F Tree → Bool
word_is_at word (Tree-F.Word w) = sameb word_type w word
word_is_at word _ = false

-- whether a tree is this word
abbrev pub has_word : Word → Tree → Bool
has_word word t = word_is_at word (out-Tree t)

abbrev pub is_absent_at : Tree-F Tree → Bool
is_absent_at Tree-F.Absent = true
is_absent_at _ = false

-- whether a tree is an empty option
abbrev pub is_absent : Tree → Bool
is_absent t = is_absent_at (out-Tree t)

infix 50 ◌is◌
-- whether two kinds are one
abbrev pub ◌is◌ : Kind → Kind → Bool
a is b = sameb the_type a b

pub differs : (a b : Kind) → (a ≡ b → ⊥) → a is b ≡ false
differs a b n = false_same the_type tt a b n

-- two kinds that are one
pub is_kind : (a b : Kind) → a is b ≡ true → a ≡ b
is_kind a b e = same_true the_type tt a b e

not_absent_at : (l : Tree-F Tree) (kind : Kind) → kind_at l ≡ kind → (kind ≡ Leaf → ⊥) → is_absent_at l ≡ false
not_absent_at Tree-F.Absent kind e not_leaf = absurd (not_leaf (sym e))
not_absent_at (Tree-F.Node k ts) kind e not_leaf = refl
not_absent_at (Tree-F.Flag x) kind e not_leaf = refl
not_absent_at (Tree-F.Context x) kind e not_leaf = refl
not_absent_at (Tree-F.Text x) kind e not_leaf = refl
not_absent_at (Tree-F.Range x) kind e not_leaf = refl
not_absent_at (Tree-F.Word x) kind e not_leaf = refl

pub not_absent : (t : Tree) (kind : Kind) → kind_of t ≡ kind → (kind ≡ Leaf → ⊥) → is_absent t ≡ false
not_absent t kind e not_leaf = not_absent_at (out-Tree t) kind e not_leaf

-- a fact of each tree of a list
abbrev pub OfAll : (Tree → Type 0) → List Tree → Type 0
OfAll P [] = Unit {0}
OfAll P (t ∷ ts) = P t × OfAll P ts
