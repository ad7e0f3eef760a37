-- White space and comments, by the places where their pieces begin and end.
use Rattle.std.specs.Prelude.{◌≡◌, ◌≢◌, ℕ, ◌+◌, ◌<◌, ◌≤◌, ◌⊎◌, List, [], ◌∷◌, length, slice_index}

-- A byte that is white space: a tab, a line's end or a space.
abbrev pub IsBlank : ℕ → Type 0
IsBlank b = ((9 ≤ b) × (b ≤ 13)) ⊎ (b ≡ 32)

abbrev pub AreBlanks : List ℕ → ℕ → ℕ → Type 0
AreBlanks z a b = (k : ℕ) → a ≤ k → k < b → IsBlank (slice_index z k)

-- U+00A0 and U+0085, of two bytes.
abbrev pub IsTwo : List ℕ → ℕ → Type 0
IsTwo z a = (slice_index z a ≡ 194) × ((slice_index z (a + 1) ≡ 160) ⊎ (slice_index z (a + 1) ≡ 133))

abbrev pub IsLast : ℕ → Type 0
IsLast b = ((128 ≤ b) × (b ≤ 139)) ⊎ (((168 ≤ b) × (b ≤ 169)) ⊎ (b ≡ 175))

-- A white space of three bytes: U+1680, U+2000 to U+200B, U+2028, U+2029, U+202F, U+205F, U+3000 and U+FEFF.
abbrev pub IsThree : List ℕ → ℕ → Type 0
IsThree z a =
    ((slice_index z a ≡ 226) × (slice_index z (a + 1) ≡ 128) × IsLast (slice_index z (a + 2)))
    ⊎ (((slice_index z a ≡ 239) × (slice_index z (a + 1) ≡ 187) × (slice_index z (a + 2) ≡ 191))
    ⊎ (((slice_index z a ≡ 227) × (slice_index z (a + 1) ≡ 128) × (slice_index z (a + 2) ≡ 128))
    ⊎ (((slice_index z a ≡ 225) × (slice_index z (a + 1) ≡ 154) × (slice_index z (a + 2) ≡ 128))
    ⊎ ((slice_index z a ≡ 226) × (slice_index z (a + 1) ≡ 129) × (slice_index z (a + 2) ≡ 159)))))

-- A line ends at a place: a line feed, a carriage return, U+2028 or U+2029.
abbrev pub IsLineEnd : List ℕ → ℕ → Type 0
IsLineEnd z k =
    (slice_index z k ≡ 10) ⊎ ((slice_index z k ≡ 13)
    ⊎ ((slice_index z k ≡ 226) × (slice_index z (k + 1) ≡ 128) × ((slice_index z (k + 2) ≡ 168) ⊎ (slice_index z (k + 2) ≡ 169))))

-- A line ends between two places.
abbrev pub HoldsLineEnd : List ℕ → ℕ → ℕ → Type 0
HoldsLineEnd z a b = (k : ℕ) × ((a ≤ k) × (k < b) × IsLineEnd z k)

-- The rest of a line: up to the first place where a line ends, or to the end of the text.
pub record IsRest (z : List ℕ) (a : ℕ) (b : ℕ) : Type 0 where
  pub within : a ≤ b
  pub same : (k : ℕ) → a ≤ k → k < b → IsLineEnd z k → ⊥
  pub last : b < length z → IsLineEnd z b

-- `//` and the rest of its line.
abbrev pub IsLine : List ℕ → ℕ → ℕ → Type 0
IsLine z a b = (slice_index z a ≡ 47) × (slice_index z (a + 1) ≡ 47) × IsRest z (a + 2) b

-- From `/*` to the first `*/` behind it.
abbrev pub IsBlock : List ℕ → ℕ → ℕ → Type 0
IsBlock z a b =
    (slice_index z a ≡ 47) × (slice_index z (a + 1) ≡ 42) × ((e : ℕ) × ((a + 2 ≤ e) × (b ≡ e + 2)
    × (slice_index z e ≡ 42) × (slice_index z (e + 1) ≡ 47)
    × ((k : ℕ) → a + 2 ≤ k → k < e → slice_index z k ≡ 42 → slice_index z (k + 1) ≢ 47)))

-- `#!` at the start of the text, and the rest of its line.
abbrev pub IsHashbang : List ℕ → ℕ → ℕ → Type 0
IsHashbang z a b = (a ≡ 0) × (slice_index z 0 ≡ 35) × (slice_index z 1 ≡ 33) × IsRest z 2 b

abbrev pub IsPiece : List ℕ → ℕ → ℕ → Type 0
IsPiece z a b =
    (AreBlanks z a b ⊎ ((IsTwo z a × (b ≡ a + 2)) ⊎ (IsThree z a × (b ≡ a + 3))))
    ⊎ (IsLine z a b ⊎ (IsBlock z a b ⊎ IsHashbang z a b))

-- Pieces from one place to another. The marks are where they begin, the last one first.
abbrev pub Gap : List ℕ → ℕ → ℕ → List ℕ → Type 0
Gap z a b [] = a ≡ b
Gap z a b (m ∷ ms) = Gap z a m ms × (m < b) × IsPiece z m b

abbrev pub IsGap : List ℕ → ℕ → ℕ → Type 0
IsGap z a b = (marks : List ℕ) × Gap z a b marks
