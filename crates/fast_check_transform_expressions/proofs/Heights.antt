-- What falls from a node of whatever kind to its parts.
use Rattle.std.specs.Prelude.{◌≡◌, ℕ, ◌<◌, ◌≤◌, ◌-◌, Option, Some, None, slice_get, unwrap_or, refl}
use Rattle.std.proofs.Common.{arith, sym, ◌∙◌}
use Rattle.fast_check_tree_syntax.specs.declared.kind.Kind.{Kind}
use Rattle.fast_check_tree_syntax.specs.declared.kind.Kind.TheVariants.{Leaf}
use Rattle.fast_check_tree_syntax.specs.declared.tree.Tree.{Tree, Absent}
use Rattle.fast_check_tree_syntax.specs.Shape.{kind_of, parts, part}
use Rattle.fast_check_tree_syntax.specs.Height.{height, absent-zero, height_part, height_one}

-- a part is lower, where anything is
pub height_less : (t : Tree) (i : ℕ) → height (part i t) ≤ height t - 1
height_less t i = go (slice_get (parts t) i) (height_one t i)
  where
    go : (o : Option Tree) → ((u : Tree) → o ≡ Some u → height u < height t) → height (unwrap_or o Absent) ≤ height t - 1
    go (Some u) below = omega (arith, below u refl)
    go None below = omega (arith, absent-zero)

-- a node of a kind that is none of a leaf has a height
pub height_some : (t : Tree) (kind : Kind) → kind_of t ≡ kind → (kind ≡ Leaf → ⊥) → 0 < height t
height_some t kind e n = omega (arith, height_part t 0 (λ leaf. n (sym e ∙ leaf)))
