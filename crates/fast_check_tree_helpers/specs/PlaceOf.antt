-- The place of a field among the parts of its form.
use Rattle.std.specs.Prelude.{◌≡◌, ℕ}
use Rattle.fast_check_tree_syntax.specs.declared.tree.Tree.{Tree}
use Rattle.fast_check_tree_syntax.specs.Shape.{part}

-- the place of a field: the field is the part that stands there
pub record PlaceOf (field : Tree → Tree) : Type 0 where
  pub place : ℕ
  pub reads : (t : Tree) → field t ≡ part place t

-- the place of a field that is no tree: the field is what is read of the part that stands there
pub record PlaceAs {A : Type 0} (read : Tree → A) (field : Tree → A) : Type 0 where
  pub place : ℕ
  pub reads : (t : Tree) → field t ≡ read (part place t)
