-- What a moved tree reads as.
use Rattle.std.specs.Prelude.{◌≡◌, ℕ, zero, suc, Bool, List, [], ◌∷◌, map, refl, slice_get, unwrap_or}
use Rattle.std.proofs.Common.{ap, ◌∙◌, sym}
use Rattle.fast_check_tree_syntax.specs.declared.kind.Kind.{Kind}
use Rattle.fast_check_tree_syntax.specs.declared.kind.Word.{Word}
use Rattle.fast_check_tree_syntax.specs.declared.source.SourceRange.{SourceRange}
use Rattle.fast_check_tree_syntax.specs.declared.source.SyntaxContext.{SyntaxContext}
use Rattle.fast_check_tree_syntax.specs.declared.tree.Tree as tree
use Rattle.fast_check_tree_syntax.specs.declared.tree.Tree.{Tree, out-Tree, roll-Tree, Absent, out-roll-Tree, roll-out-Tree}
use Rattle.fast_check_tree_syntax.specs.declared.tree.Tree.TheOpen.{Tree-F}
use Rattle.fast_check_tree_syntax.specs.declared.tree.Tree.TheFolds.{fold-roll-Tree, fold_out-Tree, map-Tree}
use Rattle.fast_check_tree_syntax.specs.Shape.{kind_at, parts_at, kind_of, parts, part, node, none_range, range_at, range_of, has_word}
use Rattle.fast_check_tree_syntax.specs.Shape.{word_is_at, is_absent, is_absent_at, text_at, text_of, flag_at, flag_of}
use Rattle.fast_check_tree_syntax.specs.Moves.{Moves, Keeps, moved, moved_level, moved_range}

pub moved_roll : (m : Moves) (l : Tree-F Tree) → moved m (roll-Tree l) ≡ roll-Tree (moved_level m (map-Tree Tree Tree (moved m) l))
unfolding moved
moved_roll m l = fold-roll-Tree Tree (λ l. roll-Tree (moved_level m l)) l

pub moved_out : (m : Moves) (t : Tree) → moved m t ≡ roll-Tree (moved_level m (map-Tree Tree Tree (moved m) (out-Tree t)))
unfolding moved
moved_out m t = fold_out-Tree Tree (λ l. roll-Tree (moved_level m l)) t

pub out_moved : (m : Moves) (t : Tree) → out-Tree (moved m t) ≡ moved_level m (map-Tree Tree Tree (moved m) (out-Tree t))
out_moved m t = ap out-Tree (moved_out m t) ∙ out-roll-Tree (moved_level m (map-Tree Tree Tree (moved m) (out-Tree t)))

-- making
pub node_moved : (m : Moves) (kind : Kind) (ps : List Tree) → moved m (node kind ps) ≡ node kind (map (moved m) ps)
unfolding roll-Tree denote.Hole.Carrier.roll
node_moved m kind ps = moved_roll m (Tree-F.Node kind ps)

pub absent_moved : (m : Moves) → moved m Absent ≡ Absent
unfolding roll-Tree denote.Hole.Carrier.roll
absent_moved m = moved_roll m Tree-F.Absent

pub flag_moved : (m : Moves) (b : Bool) → moved m (tree.Flag b) ≡ tree.Flag b
unfolding roll-Tree denote.Hole.Carrier.roll
flag_moved m b = moved_roll m (Tree-F.Flag b)

pub word_moved : (m : Moves) (w : Word) → moved m (tree.Word w) ≡ tree.Word w
unfolding roll-Tree denote.Hole.Carrier.roll
word_moved m w = moved_roll m (Tree-F.Word w)

pub text_moved : (m : Moves) (x : List ℕ) → moved m (tree.Text x) ≡ tree.Text x
unfolding roll-Tree denote.Hole.Carrier.roll
text_moved m x = moved_roll m (Tree-F.Text x)

pub context_moved : (m : Moves) (c : SyntaxContext) → moved m (tree.Context c) ≡ tree.Context (record { 0 = m.scopes c.0 })
unfolding roll-Tree denote.Hole.Carrier.roll
context_moved m c = moved_roll m (Tree-F.Context c)

pub range_moved : (m : Moves) (r : SourceRange) → moved m (tree.Range r) ≡ tree.Range (moved_range m r)
unfolding roll-Tree denote.Hole.Carrier.roll
range_moved m r = moved_roll m (Tree-F.Range r)

-- reading
kind_level : (m : Moves) (l : Tree-F Tree) → kind_at (moved_level m (map-Tree Tree Tree (moved m) l)) ≡ kind_at l
kind_level m (Tree-F.Node k ts) = refl
kind_level m Tree-F.Absent = refl
kind_level m (Tree-F.Flag x) = refl
kind_level m (Tree-F.Context x) = refl
kind_level m (Tree-F.Text x) = refl
kind_level m (Tree-F.Range x) = refl
kind_level m (Tree-F.Word x) = refl

pub kind_of_moved : (m : Moves) (t : Tree) → kind_of (moved m t) ≡ kind_of t
kind_of_moved m t = ap kind_at (out_moved m t) ∙ kind_level m (out-Tree t)

parts_level : (m : Moves) (l : Tree-F Tree) → parts_at (moved_level m (map-Tree Tree Tree (moved m) l)) ≡ map (moved m) (parts_at l)
parts_level m (Tree-F.Node k ts) = refl
parts_level m Tree-F.Absent = refl
parts_level m (Tree-F.Flag x) = refl
parts_level m (Tree-F.Context x) = refl
parts_level m (Tree-F.Text x) = refl
parts_level m (Tree-F.Range x) = refl
parts_level m (Tree-F.Word x) = refl

pub parts_moved : (m : Moves) (t : Tree) → parts (moved m t) ≡ map (moved m) (parts t)
parts_moved m t = ap parts_at (out_moved m t) ∙ parts_level m (out-Tree t)

get_moved : (m : Moves) (ts : List Tree) (i : ℕ) → unwrap_or (slice_get (map (moved m) ts) i) Absent ≡ moved m
    (unwrap_or (slice_get ts i) Absent)
get_moved m [] i = sym (absent_moved m)
get_moved m (t ∷ ts) zero = refl
get_moved m (t ∷ ts) (suc i) = get_moved m ts i

pub part_moved : (m : Moves) (i : ℕ) (t : Tree) → part i (moved m t) ≡ moved m (part i t)
part_moved m i t = ap (λ ts. unwrap_or (slice_get ts i) Absent) (parts_moved m t) ∙ get_moved m (parts t) i

absent_level : (m : Moves) (l : Tree-F Tree) → is_absent_at (moved_level m (map-Tree Tree Tree (moved m) l)) ≡ is_absent_at l
absent_level m (Tree-F.Node k ts) = refl
absent_level m Tree-F.Absent = refl
absent_level m (Tree-F.Flag x) = refl
absent_level m (Tree-F.Context x) = refl
absent_level m (Tree-F.Text x) = refl
absent_level m (Tree-F.Range x) = refl
absent_level m (Tree-F.Word x) = refl

pub is_absent_moved : (m : Moves) (t : Tree) → is_absent (moved m t) ≡ is_absent t
is_absent_moved m t = ap is_absent_at (out_moved m t) ∙ absent_level m (out-Tree t)

word_level : (m : Moves) (w : Word) (l : Tree-F Tree) → word_is_at w (moved_level m (map-Tree Tree Tree (moved m) l)) ≡ word_is_at w l
word_level m w (Tree-F.Node k ts) = refl
word_level m w Tree-F.Absent = refl
word_level m w (Tree-F.Flag x) = refl
word_level m w (Tree-F.Context x) = refl
word_level m w (Tree-F.Text x) = refl
word_level m w (Tree-F.Range x) = refl
word_level m w (Tree-F.Word x) = refl

pub has_word_moved : (m : Moves) (w : Word) (t : Tree) → has_word w (moved m t) ≡ has_word w t
has_word_moved m w t = ap (word_is_at w) (out_moved m t) ∙ word_level m w (out-Tree t)

flag_level : (m : Moves) (l : Tree-F Tree) → flag_at (moved_level m (map-Tree Tree Tree (moved m) l)) ≡ flag_at l
flag_level m (Tree-F.Node k ts) = refl
flag_level m Tree-F.Absent = refl
flag_level m (Tree-F.Flag x) = refl
flag_level m (Tree-F.Context x) = refl
flag_level m (Tree-F.Text x) = refl
flag_level m (Tree-F.Range x) = refl
flag_level m (Tree-F.Word x) = refl

pub flag_of_moved : (m : Moves) (t : Tree) → flag_of (moved m t) ≡ flag_of t
flag_of_moved m t = ap flag_at (out_moved m t) ∙ flag_level m (out-Tree t)

text_level : (m : Moves) (l : Tree-F Tree) → text_at (moved_level m (map-Tree Tree Tree (moved m) l)) ≡ text_at l
text_level m (Tree-F.Node k ts) = refl
text_level m Tree-F.Absent = refl
text_level m (Tree-F.Flag x) = refl
text_level m (Tree-F.Context x) = refl
text_level m (Tree-F.Text x) = refl
text_level m (Tree-F.Range x) = refl
text_level m (Tree-F.Word x) = refl

pub text_of_moved : (m : Moves) (t : Tree) → text_of (moved m t) ≡ text_of t
text_of_moved m t = ap text_at (out_moved m t) ∙ text_level m (out-Tree t)

module _ (m : Moves) (ok : Keeps m) where
  pub none_moved : moved_range m none_range ≡ none_range
  none_moved = λ i. record { start = record { 0 = ok.start_zero i }; end = record { 0 = ok.end_zero i } }

  range_level : (l : Tree-F Tree) → range_at (moved_level m (map-Tree Tree Tree (moved m) l)) ≡ moved_range m (range_at l)
  range_level (Tree-F.Node k ts) = sym none_moved
  range_level Tree-F.Absent = sym none_moved
  range_level (Tree-F.Flag x) = sym none_moved
  range_level (Tree-F.Context x) = sym none_moved
  range_level (Tree-F.Text x) = sym none_moved
  range_level (Tree-F.Range x) = refl
  range_level (Tree-F.Word x) = sym none_moved

  pub range_of_moved : (t : Tree) → range_of (moved m t) ≡ moved_range m (range_of t)
  range_of_moved t = ap range_at (out_moved m t) ∙ range_level (out-Tree t)
