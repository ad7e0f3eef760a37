-- The ranges of a tree: each lies in that of the node around it, and the items of a list stand behind one another.
use Rattle.std.specs.Prelude.{ℕ, Bool, true, ◌&&◌, max, Option, Some, None, List, [], ◌∷◌, if◌then◌else◌}
use Rattle.std.specs.List.{list_all}
use Rattle.std.proofs.Math.Dec.{leb}
use Rattle.fast_check_tree_syntax.specs.declared.kind.Kind.{Kind}
use Rattle.fast_check_tree_syntax.specs.declared.kind.Kind.TheVariants as kinds
use Rattle.fast_check_tree_syntax.specs.declared.source.SourceRange.{SourceRange}
use Rattle.fast_check_tree_syntax.specs.declared.tree.Tree.{Tree, out-Tree}
use Rattle.fast_check_tree_syntax.specs.declared.tree.Tree.TheOpen.{Tree-F}
use Rattle.fast_check_tree_syntax.specs.Height.{highest}
use Rattle.fast_check_tree_syntax.specs.Recursion.{by_form}
use Rattle.fast_check_tree_syntax.specs.Shape.{◌is◌}

-- whether a range does not end before it begins, and lies between two places
abbrev pub is_between : ℕ → SourceRange → ℕ → Bool
is_between low r high = leb low r.start.0 && (leb r.start.0 r.end.0 && leb r.end.0 high)

abbrev pub range_at : Tree-F Tree → Option SourceRange
range_at (Tree-F.Range r) = Some r
range_at _ = None

-- the range that is the first of the parts
abbrev pub first_range : List Tree → Option SourceRange
first_range [] = None
first_range (t ∷ ts) = range_at (out-Tree t)

-- The range of a node, if it has one: its first part. A spread has none, since its first part is where its dots stand.
abbrev pub own_range : Kind → List Tree → Option SourceRange
own_range kinds.ExprOrSpread ts = None
own_range kinds.SpreadElement ts = None
own_range _ ts = first_range ts

-- where a node ends: where its range does, or else the last of its parts, whose ends are given
abbrev pub node_end : Option SourceRange → List ℕ → ℕ
node_end (Some r) ends = r.end.0
node_end None ends = highest ends

abbrev pub level_end : Tree-F Tree → List ℕ → ℕ
level_end (Tree-F.Range r) ends = r.end.0
level_end (Tree-F.Node kind ts) ends = node_end (own_range kind ts) ends
level_end _ ends = 0

abbrev pub end_form : Tree → (ℕ → ℕ) → List ℕ → ℕ
end_form t at ends = level_end (out-Tree t) ends

-- where the last range of a tree ends, or 0 where it has none
unfoldable pub end_of : Tree → ℕ
end_of = by_form 0 end_form

-- whether a tree's ranges lie between two places
abbrev pub Test : Type 0
Test = ℕ → ℕ → Bool

-- Each item begins no earlier than those before it end.
abbrev pub follow : List Tree → List Test → ℕ → ℕ → Bool
follow (t ∷ ts) (lies ∷ rest) low high = lies low high && follow ts rest (max low (end_of t)) high
follow _ _ low high = true

-- The decorators of a class may stand before it, and before the `export` around it.
abbrev pub in_class : List Test → SourceRange → Bool
in_class (range ∷ context ∷ decorators ∷ rest) r =
    decorators 1 r.end.0 && list_all (λ lies. lies r.start.0 r.end.0) rest
in_class each r = list_all (λ lies. lies r.start.0 r.end.0) each

-- The parts of a node lie in its range.
abbrev pub inside : Kind → List Test → SourceRange → Bool
inside kind each r = if kind is kinds.Class then in_class each r else list_all (λ lies. lies r.start.0 r.end.0) each

-- the parts of a node that has no range of its own
abbrev pub unranged : Kind → List Tree → List Test → ℕ → ℕ → Bool
unranged kind ts each low high = if kind is kinds.List then follow ts each low high else list_all (λ lies. lies low high) each

abbrev pub node_lies : Option SourceRange → Kind → List Tree → List Test → ℕ → ℕ → Bool
node_lies (Some r) kind ts each low high = is_between low r high && inside kind each r
node_lies None kind ts each low high = unranged kind ts each low high

abbrev pub level_lies : Tree-F Tree → List Test → ℕ → ℕ → Bool
level_lies (Tree-F.Range r) each low high = is_between low r high
level_lies (Tree-F.Node kind ts) each low high = node_lies (own_range kind ts) kind ts each low high
level_lies _ each low high = true

abbrev pub nested_form : Tree → (ℕ → Test) → List Test → ℕ → ℕ → Bool
nested_form t at each = level_lies (out-Tree t) each

-- whether the ranges of a tree lie between two places, each in that of the node around it, and the items of each list behind one another
unfoldable pub is_nested : Tree → ℕ → ℕ → Bool
is_nested = by_form (λ low high. true) nested_form
