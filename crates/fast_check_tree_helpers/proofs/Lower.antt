-- The part of a node is lower than the node, as the measures of the recursions count: a node is no leaf by its kind.
use Rattle.std.proofs.Common.{◌≡◌, ℕ, ◌+◌, ◌*◌, ◌<◌, false, List, length, get_or, arith, ap, sym, subst, ◌∙◌}
use Rattle.std.proofs.lemmas.Bool.{false≢true}
use Rattle.fast_check_tree_syntax.specs.declared.kind.Kind.{Kind}
use Rattle.fast_check_tree_syntax.specs.declared.kind.Kind.TheVariants.{Leaf}
use Rattle.fast_check_tree_syntax.specs.declared.tree.Tree.{Tree}
use Rattle.fast_check_tree_syntax.specs.Height.{height, height_part, height_read}
use Rattle.fast_check_tree_syntax.specs.Shape.{◌is◌, kind_of, part, parts}

not_leaf : (k : Kind) → k is Leaf ≡ false → k ≡ Leaf → ⊥
not_leaf k e p = false≢true (sym e ∙ ap (λ a. a is Leaf) p)

pub lower : (t : Tree) (i : ℕ) {u : Tree} {k : Kind} → k ≡ kind_of t → u ≡ part i t → k is Leaf ≡ false → height u < height t
lower t i e p n = rw p (height_part t i (λ leaf. not_leaf _ n (e ∙ leaf)))

pub lower_odd : (t : Tree) (i : ℕ) {u : Tree} {k : Kind} {n : ℕ} →
    2 * height t + 1 ≡ n → k ≡ kind_of t → u ≡ part i t → k is Leaf ≡ false → 2 * height u + 1 < n
lower_odd t i m e p l = omega (arith, m, lower t i e p l)

-- of a part of what is known to be no leaf, as the measures of a node with a list beside it count, and of a node alone
pub lower_part : (t : Tree) (i : ℕ) {u : Tree} {n : ℕ} → 2 * height t + 1 ≡ n → (kind_of t ≡ Leaf → ⊥) → u ≡ part i t → 2 * height u + 1 < n
lower_part t i m n p = rw p (omega (arith, m, height_part t i n))

pub lower_even : (t : Tree) (i : ℕ) {u : Tree} {n : ℕ} → 2 * height t ≡ n → (kind_of t ≡ Leaf → ⊥) → u ≡ part i t → 2 * height u + 1 < n
lower_even t i m n p = rw p (omega (arith, m, height_part t i n))

pub lower_than : (t : Tree) (i : ℕ) {u : Tree} {n : ℕ} → height t ≡ n → (kind_of t ≡ Leaf → ⊥) → u ≡ part i t → height u < n
lower_than t i m n p = rw p (omega (arith, m, height_part t i n))

-- a list of items, where the measure is that of a node, and an item that is read of it
pub lower_list : (t : Tree) {n : ℕ} → 2 * height t + 1 ≡ n → 2 * height t < n
lower_list t m = omega (arith, m)

pub lower_item : (t : Tree) (items : List Tree) (i : ℕ) (item : Tree) {u : Tree} {n : ℕ} → 2 * height t ≡ n → items ≡ parts t →
    i < length items →
    item ≡ get_or items i item → u ≡ item → 2 * height u + 1 < n
lower_item t items i item {u} {n} m are below at same = omega (arith, m, lower_read)
  where
    read_is : u ≡ get_or (parts t) i item
    read_is = same ∙ (at ∙ ap (λ ts. get_or ts i item) are)

    lower_read : height u < height t
    lower_read = rw read_is (height_read t i item (subst (λ (ts : List Tree). i < length ts) are below))
