-- What the definitions give at each form of a tree, and one item further on.
use Rattle.std.specs.Prelude.{◌≡◌, ◌<◌, ◌+◌, ℕ, zero, suc, max, refl, Bool, true, false, ◌&&◌, List, [], ◌∷◌, map, length, take}
use Rattle.std.specs.List.{list_all}
use Rattle.std.proofs.Common.{arith, get_or, drop, ap, sym, ◌∙◌, subst}
use Rattle.std.proofs.lemmas.List.{drop_more}
use Rattle.fast_check_tree_syntax.specs.declared.kind.Kind.{Kind}
use Rattle.fast_check_tree_syntax.specs.declared.kind.Word.{Word}
use Rattle.fast_check_tree_syntax.specs.declared.atom.Atom.{Atom}
use Rattle.fast_check_tree_syntax.specs.declared.source.SourceRange.{SourceRange}
use Rattle.fast_check_tree_syntax.specs.declared.source.SyntaxContext.{SyntaxContext}
use Rattle.fast_check_tree_syntax.specs.declared.tree.Tree.{Tree, out-Tree, roll-Tree, Absent, Flag, Context, Text, Range, Word as WordLeaf, Node}
use Rattle.fast_check_tree_syntax.specs.declared.tree.Tree.{out-roll-Tree}
use Rattle.fast_check_tree_syntax.specs.declared.tree.Tree.TheOpen.{Tree-F}
use Rattle.fast_check_tree_syntax.specs.Height.{highest}
use Rattle.fast_check_tree_syntax.specs.Shape.{is_absent, parts_at}
use Rattle.fast_check_tree_syntax.proofs.Made.{is_absent_node}
use Rattle.fast_check_tree_syntax.specs.Recursion.{by_form_is, by_form_absent}
use Rattle.fast_check_source_walks.specs.Ranges.{own_range, end_of, end_form, level_end, node_end, is_nested, nested_form, level_lies, node_lies, is_between, follow, Test}

end_out : (t : Tree) → is_absent t ≡ false → end_of t ≡ level_end (out-Tree t) (map end_of (parts_at (out-Tree t)))
unfolding end_of
end_out t e = by_form_is 0 end_form t e

nested_out : (t : Tree) → is_absent t ≡ false → is_nested t ≡ level_lies (out-Tree t) (map is_nested (parts_at (out-Tree t)))
unfolding is_nested
nested_out t e = by_form_is (λ low high. true) nested_form t e

pub end_node : (k : Kind) (ts : List Tree) → end_of (Node k ts) ≡ node_end (own_range k ts) (map end_of ts)
unfolding roll-Tree denote.Hole.Carrier.roll
end_node k ts = end_out (Node k ts) (is_absent_node k ts)
    ∙ ap (λ l. level_end l (map end_of (parts_at l))) (out-roll-Tree (Tree-F.Node k ts))

pub end_range : (r : SourceRange) → end_of (Range r) ≡ r.end.0
unfolding end_of out-Tree denote.Hole.Carrier.out
end_range r = by_form_is 0 end_form (Range r) refl

pub end_absent : end_of Absent ≡ 0
unfolding end_of
end_absent = by_form_absent 0 end_form

pub end_flag : (b : Bool) → end_of (Flag b) ≡ 0
unfolding end_of out-Tree denote.Hole.Carrier.out
end_flag b = by_form_is 0 end_form (Flag b) refl

pub end_context : (c : SyntaxContext) → end_of (Context c) ≡ 0
unfolding end_of out-Tree denote.Hole.Carrier.out
end_context c = by_form_is 0 end_form (Context c) refl

pub end_text : (a : Atom) → end_of (Text a) ≡ 0
unfolding end_of out-Tree denote.Hole.Carrier.out
end_text a = by_form_is 0 end_form (Text a) refl

pub end_word : (w : Word) → end_of (WordLeaf w) ≡ 0
unfolding end_of out-Tree denote.Hole.Carrier.out
end_word w = by_form_is 0 end_form (WordLeaf w) refl

pub nested_node : (k : Kind) (ts : List Tree) (low high : ℕ) →
    is_nested (Node k ts) low high ≡ node_lies (own_range k ts) k ts (map is_nested ts) low high
unfolding roll-Tree denote.Hole.Carrier.roll
nested_node k ts low high = ap (λ f. f low high) (nested_out (Node k ts) (is_absent_node k ts)
    ∙ ap (λ l. level_lies l (map is_nested (parts_at l))) (out-roll-Tree (Tree-F.Node k ts)))

pub nested_range : (r : SourceRange) (low high : ℕ) → is_nested (Range r) low high ≡ is_between low r high
unfolding is_nested out-Tree denote.Hole.Carrier.out
nested_range r low high = ap (λ f. f low high) (by_form_is (λ low high. true) nested_form (Range r) refl)

pub nested_absent : (low high : ℕ) → is_nested Absent low high ≡ true
unfolding is_nested
nested_absent low high = ap (λ f. f low high) (by_form_absent (λ low high. true) nested_form)

pub nested_flag : (b : Bool) (low high : ℕ) → is_nested (Flag b) low high ≡ true
unfolding is_nested out-Tree denote.Hole.Carrier.out
nested_flag b low high = ap (λ f. f low high) (by_form_is (λ low high. true) nested_form (Flag b) refl)

pub nested_context : (c : SyntaxContext) (low high : ℕ) → is_nested (Context c) low high ≡ true
unfolding is_nested out-Tree denote.Hole.Carrier.out
nested_context c low high = ap (λ f. f low high) (by_form_is (λ low high. true) nested_form (Context c) refl)

pub nested_text : (a : Atom) (low high : ℕ) → is_nested (Text a) low high ≡ true
unfolding is_nested out-Tree denote.Hole.Carrier.out
nested_text a low high = ap (λ f. f low high) (by_form_is (λ low high. true) nested_form (Text a) refl)

pub nested_word : (w : Word) (low high : ℕ) → is_nested (WordLeaf w) low high ≡ true
unfolding is_nested out-Tree denote.Hole.Carrier.out
nested_word w low high = ap (λ f. f low high) (by_form_is (λ low high. true) nested_form (WordLeaf w) refl)

-- One item further on in a list.
pub end_more : (ts : List Tree) (i j : ℕ) (d : Tree) (e total : ℕ) → j ≡ i + 1 → i < length ts →
    max e (highest (map end_of (drop i ts))) ≡ total →
    max (max e (end_of (get_or ts i d))) (highest (map end_of (drop j ts))) ≡ total
end_more ts i j d e total next lt is =
    let step : highest (map end_of (drop i ts)) ≡ max (end_of (get_or ts i d)) (highest (map end_of (drop (i + 1) ts))) =
    ap (λ (us : List Tree). highest (map end_of us)) (drop_more ts i d lt) in
    let same : highest (map end_of (drop j ts)) ≡ highest (map end_of (drop (i + 1) ts)) =
    ap (λ (n : ℕ). highest (map end_of (drop n ts))) next in
    omega (arith, step, same, is)

pub all_step : (ts : List Tree) (i : ℕ) (d : Tree) (low high : ℕ) → i < length ts →
    list_all (λ (test : Test). test low high) (map is_nested (drop i ts)) ≡
    (is_nested (get_or ts i d) low high && list_all (λ (test : Test). test low high) (map is_nested (drop (i + 1) ts)))
all_step ts i d low high lt =
    ap (λ (us : List Tree). list_all (λ (test : Test). test low high) (map is_nested us)) (drop_more ts i d lt)

pub follow_step : (ts : List Tree) (i : ℕ) (d : Tree) (low high : ℕ) → i < length ts →
    follow (drop i ts) (map is_nested (drop i ts)) low high ≡
    (is_nested (get_or ts i d) low high &&
    follow (drop (i + 1) ts) (map is_nested (drop (i + 1) ts)) (max low (end_of (get_or ts i d))) high)
follow_step ts i d low high lt =
    ap (λ (us : List Tree). follow us (map is_nested us) low high) (drop_more ts i d lt)
