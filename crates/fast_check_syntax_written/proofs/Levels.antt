-- What a tree writes, by its kind, and how high it is.
use Rattle.std.specs.Prelude.{◌≡◌, ◌≤◌, ◌<◌, ℕ, zero, suc, true, false, Bool, List, [], ◌∷◌, map, length, get_or, refl}
use Rattle.std.proofs.Common.{arith, sym, ap, ◌∙◌}
use Rattle.fast_check_tree_syntax.specs.declared.kind.Kind.{Kind}
use Rattle.fast_check_tree_syntax.specs.declared.kind.Kind.TheVariants as kinds
use Rattle.fast_check_tree_syntax.specs.declared.tree.Tree.{Tree, out-Tree}
use Rattle.fast_check_tree_syntax.specs.declared.tree.Tree.TheOpen.{Tree-F}
use Rattle.fast_check_tree_syntax.specs.declared.tree.Tree.TheFolds.{map-Tree}
use Rattle.fast_check_tree_syntax.specs.Height.{height, highest, height_step, height_out, height_part}
use Rattle.fast_check_tree_syntax.specs.Recursion.{by_form_node, by_form_is, by_form_is_absent}
use Rattle.fast_check_tree_syntax.specs.Shape.{kind_at, kind_of, parts_at, parts, part, is_absent, is_absent_at}
use Rattle.fast_check_syntax_table.specs.declared.piece.Slot.{Slot}
use Rattle.fast_check_syntax_table.specs.declared.piece.Slot.TheVariants as slots
use Rattle.fast_check_syntax_table.specs.Spelled.{Syntax, Nothing}
use Rattle.fast_check_syntax_table.specs.Written.{ways, written, form_ways, nothing, level, whole, Ways}
use Rattle.fast_check_syntax_written.specs.Passes.{wholes, in_way}
use Rattle.fast_check_syntax_table.specs.Lists.{each}

pub written_node : (t : Tree) (slot : Slot) → (kind_of t ≡ kinds.Leaf → ⊥) →
    written t slot ≡ level (kind_of t) t (λ i. ways (part i t)) (map ways (parts t)) slot
unfolding ways
written_node t slot e = ap (λ (w : Ways). w.way slot) (by_form_node nothing form_ways t (kind_of t) refl e)

leaf_level : (t : Tree) (at : ℕ → Ways) (items : List Ways) (slot : Slot) → level kinds.Leaf t at items slot ≡ Nothing
leaf_level t at items slots.Whole = refl
leaf_level t at items slots.Decorators = refl
leaf_level t at items slots.Modifiers = refl
leaf_level t at items slots.Async = refl
leaf_level t at items slots.Star = refl
leaf_level t at items slots.Bare = refl
leaf_level t at items slots.Head = refl
leaf_level t at items slots.Definite = refl
leaf_level t at items slots.Optional = refl
leaf_level t at items slots.In = refl
leaf_level t at items slots.Member = refl

leaf_form : (t : Tree) (slot : Slot) (at : ℕ → Ways) (items : List Ways) → kind_of t ≡ kinds.Leaf → (form_ways t at items).way slot ≡ Nothing
leaf_form t slot at items e = ap (λ (k : Kind). level k t at items slot) e ∙ leaf_level t at items slot

by_absence : (t : Tree) (slot : Slot) (b : Bool) → is_absent t ≡ b → kind_of t ≡ kinds.Leaf → written t slot ≡ Nothing
unfolding ways
by_absence t slot true a e = ap (λ (w : Ways). w.way slot) (by_form_is_absent nothing form_ways t a)
by_absence t slot false a e = ap (λ (w : Ways). w.way slot) (by_form_is nothing form_ways t a) ∙ leaf_form t slot _ _ e

-- a leaf writes nothing
pub written_leaf : (t : Tree) (slot : Slot) → kind_of t ≡ kinds.Leaf → written t slot ≡ Nothing
written_leaf t slot e = by_absence t slot (is_absent t) refl e

whole_items : (ts : List Tree) → map whole (map ways ts) ≡ wholes ts
whole_items [] = refl
whole_items (t ∷ ts) = ap (λ (xs : List Syntax). whole (ways t) ∷ xs) (whole_items ts)

way_items : (slot : Slot) (ts : List Tree) → map (λ (w : Ways). w.way slot) (map ways ts) ≡ in_way slot ts
way_items slot [] = refl
way_items slot (t ∷ ts) = ap (λ (xs : List Syntax). written t slot ∷ xs) (way_items slot ts)

-- a list writes its items
pub written_list : (t : Tree) (slot : Slot) → kind_of t ≡ kinds.List → written t slot ≡ each (in_way slot (parts t))
written_list t slot e = written_node t slot (λ f. leaf_list (sym e ∙ f)) ∙ (ap (λ (k : Kind). level k t (λ i. ways (part i t)) (map ways (parts t)) slot) e
    ∙ ap each (way_items slot (parts t)))
  where
    leaf_list : kinds.List ≡ kinds.Leaf → ⊥
    leaf_list f = cc

absent_parts : (l : Tree-F Tree) → is_absent_at l ≡ true → [] ≡ wholes (parts_at l)
absent_parts Tree-F.Absent e = refl
absent_parts (Tree-F.Node k ts) e = cc
absent_parts (Tree-F.Flag x) e = cc
absent_parts (Tree-F.Context x) e = cc
absent_parts (Tree-F.Text x) e = cc
absent_parts (Tree-F.Range x) e = cc
absent_parts (Tree-F.Word x) e = cc

items_by_absence : (t : Tree) (b : Bool) → is_absent t ≡ b → (ways t).items ≡ wholes (parts t)
unfolding ways
items_by_absence t true a = ap (λ (w : Ways). w.items) (by_form_is_absent nothing form_ways t a) ∙ absent_parts (out-Tree t) a
items_by_absence t false a = ap (λ (w : Ways). w.items) (by_form_is nothing form_ways t a) ∙ whole_items (parts t)

-- the items of a list as its parts write them
pub ways_items : (t : Tree) → (ways t).items ≡ wholes (parts t)
ways_items t = items_by_absence t (is_absent t) refl

level_high : (l : Tree-F Tree) → (kind_at l ≡ kinds.Leaf → ⊥) → suc (highest (map height (parts_at l))) ≡ height_step
    (map-Tree Tree ℕ height l)
level_high (Tree-F.Node k ts) e = refl
level_high Tree-F.Absent e = absurd (e refl)
level_high (Tree-F.Flag x) e = absurd (e refl)
level_high (Tree-F.Context x) e = absurd (e refl)
level_high (Tree-F.Text x) e = absurd (e refl)
level_high (Tree-F.Range x) e = absurd (e refl)
level_high (Tree-F.Word x) e = absurd (e refl)

-- A node is one higher than its highest part.
pub parts_high : (t : Tree) → (kind_of t ≡ kinds.Leaf → ⊥) → suc (highest (map height (parts t))) ≡ height t
parts_high t e = level_high (out-Tree t) e ∙ sym (height_out t)

level_low : (l : Tree-F Tree) → highest (map height (parts_at l)) ≤ height_step (map-Tree Tree ℕ height l)
level_low (Tree-F.Node k ts) = omega arith
level_low Tree-F.Absent = omega arith
level_low (Tree-F.Flag x) = omega arith
level_low (Tree-F.Context x) = omega arith
level_low (Tree-F.Text x) = omega arith
level_low (Tree-F.Range x) = omega arith
level_low (Tree-F.Word x) = omega arith

-- A tree in a row is no higher than the highest.
pub one_height : (ts : List Tree) (k : ℕ) (d : Tree) → k < length ts → height (get_or ts k d) ≤ highest (map height ts)
one_height [] k d h = absurd (omega arith)
one_height (t ∷ ts) zero d h = omega arith
one_height (t ∷ ts) (suc k) d h = omega (arith, one_height ts k d (omega arith))

pub part_lower : (t : Tree) (i : ℕ) → (kind_of t ≡ kinds.Leaf → ⊥) → height (part i t) < height t
part_lower t i e = height_part t i e

-- The items of a part are lower than the node.
pub items_lower : (t : Tree) (i : ℕ) → (kind_of t ≡ kinds.Leaf → ⊥) → highest (map height (parts (part i t))) < height t
items_lower t i e =
    let low : highest (map height (parts (part i t))) ≤ height (part i t) = rw (height_out (part i t)) (level_low (out-Tree (part i t))) in
    omega (arith, height_part t i e)
