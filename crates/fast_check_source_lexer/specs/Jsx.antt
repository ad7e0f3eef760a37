-- The text between JSX tags.
use Rattle.std.specs.Prelude.{◌≡◌, ◌≢◌, ℕ, ◌<◌, ◌≤◌, ◌⊎◌, List, length, slice_index}

-- `<`, `>`, `{` or `}`, none of which stands in the text between tags.
abbrev pub IsMark : ℕ → Type 0
IsMark b = (b ≡ 60) ⊎ ((b ≡ 62) ⊎ ((b ≡ 123) ⊎ (b ≡ 125)))

-- From a place to the first mark behind it, or to the end of the text.
pub record IsJsxText (z : List ℕ) (a : ℕ) (b : ℕ) : Type 0 where
  pub begins : a ≤ b
  pub within : b ≤ length z
  pub plain : (k : ℕ) → a ≤ k → k < b →
      (slice_index z k ≢ 60) × (slice_index z k ≢ 62) × (slice_index z k ≢ 123) × (slice_index z k ≢ 125)
  pub last : b < length z → IsMark (slice_index z b)
