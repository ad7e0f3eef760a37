-- Pieces of syntax, and how a text spells them between two places.
use Rattle.std.specs.Prelude.{◌≡◌, ℕ, ◌+◌, ◌-◌, ◌<◌, ◌≤◌, ◌⊎◌, List, [], ◌∷◌, length, slice_index, codes}
use Rattle.fast_check_source_lexer.specs.Gaps.{IsGap, HoldsLineEnd}

pub data Syntax : Type 0 where
  Nothing : Syntax
  Never : Syntax
  Gap : Syntax
  Bytes : List ℕ → Syntax
  Lines : List ℕ → Syntax
  Escaped : Syntax
  Apart : List ℕ → Syntax
  Ended : Syntax
  LineEnd : Syntax
  Then : Syntax → Syntax → Syntax
  Either : Syntax → Syntax → Syntax

-- These bytes stand at a place.
pub record Reads (z : List ℕ) (at : ℕ) (s : List ℕ) : Type 0 where
  pub within : at + length s ≤ length z
  pub same : (k : ℕ) → k < length s → slice_index z (at + k) ≡ slice_index s k

-- A byte stands between two places; a line feed may be written as a carriage return, or as that and a line feed.
abbrev pub IsLineByte : List ℕ → ℕ → ℕ → ℕ → Type 0
IsLineByte z c a b = ((slice_index z a ≡ c) × (b ≡ a + 1))
    ⊎ ((c ≡ 10) × (slice_index z a ≡ 13) × ((b ≡ a + 1) ⊎ ((slice_index z (a + 1) ≡ 10) × (b ≡ a + 2))))

-- These bytes stand between two places of the text, with line ends as they may be written.
abbrev pub ReadsLines : List ℕ → List ℕ → ℕ → ℕ → Type 0
ReadsLines z [] a b = a ≡ b
ReadsLines z (c ∷ s) a b = (m : ℕ) × ((m ≤ length z) × IsLineByte z c a m × ReadsLines z s m b)

-- A letter, a digit, `_`, `$`, `\`, or a byte of a character that is not of ASCII.
abbrev pub IsNamePart : ℕ → Type 0
IsNamePart b = ((48 ≤ b) × (b ≤ 57)) ⊎ (((65 ≤ b) × (b ≤ 90)) ⊎ (((97 ≤ b) × (b ≤ 122))
    ⊎ ((b ≡ 95) ⊎ ((b ≡ 36) ⊎ ((b ≡ 92) ⊎ (128 ≤ b))))))

-- No name goes on at a place: where a byte of one stands there, it begins white space.
abbrev pub IsEnded : List ℕ → ℕ → Type 0
IsEnded z a = IsNamePart (slice_index z a) → (m : ℕ) × ((a < m) × IsGap z a m)

-- A name or keyword does not go on at a place.
abbrev pub IsApart : List ℕ → List ℕ → ℕ → Type 0
IsApart z s a = IsNamePart (slice_index s (length s - 1)) → IsEnded z a

abbrev pub IsEscapedPart : ℕ → Type 0
IsEscapedPart b = IsNamePart b ⊎ ((b ≡ 123) ⊎ (b ≡ 125))

-- A name with an escape, whatever it means: that it means the one in the tree is not said.
pub record IsEscaped (z : List ℕ) (a : ℕ) (b : ℕ) : Type 0 where
  pub escape : (k : ℕ) × ((a ≤ k) × (k < b) × (slice_index z k ≡ 92))
  pub parts : (k : ℕ) → a ≤ k → k < b → IsEscapedPart (slice_index z k)

-- A semicolon may be left out: after the gap a `}` stands, or the text ends, or a line ends in the gap.
abbrev pub MayEnd : List ℕ → ℕ → Type 0
MayEnd z a = (m : ℕ) × (IsGap z a m × (HoldsLineEnd z a m ⊎ ((slice_index z m ≡ 125) ⊎ (m ≡ length z))))

-- Between two places stands this syntax, and nothing else.
abbrev pub Spelled : List ℕ → Syntax → ℕ → ℕ → Type 0
Spelled z Nothing a b = a ≡ b
Spelled z Never a b = ⊥
Spelled z Gap a b = IsGap z a b
Spelled z (Bytes s) a b = Reads z a s × (b ≡ a + length s)
Spelled z (Lines s) a b = ReadsLines z s a b
Spelled z Escaped a b = IsEscaped z a b
Spelled z (Apart s) a b = (a ≡ b) × IsApart z s a
Spelled z Ended a b = (a ≡ b) × IsEnded z a
Spelled z LineEnd a b = (a ≡ b) × MayEnd z a
Spelled z (Then x y) a b = (m : ℕ) × (Spelled z x a m × Spelled z y m b)
Spelled z (Either x y) a b = Spelled z x a b ⊎ Spelled z y a b

-- a token: these bytes after white space and comments, where a word does not go on
abbrev pub token : List ℕ → Syntax
token s = Then Gap (Then (Bytes s) (Apart s))

abbrev pub may : List ℕ → Syntax
may s = Either (token s) Nothing

-- a name, or one with escapes
abbrev pub name : List ℕ → Syntax
name s = Either (token s) (Then Gap (Then Escaped Ended))

-- a name after `#`
abbrev pub private_name : List ℕ → Syntax
private_name s = Then Gap (Then (Bytes (codes "#")) (Either (Then (Bytes s) (Apart s)) (Then Escaped Ended)))

abbrev pub number : List ℕ → Syntax
number s = Then Gap (Then (Bytes s) Ended)

-- a text as it is written
abbrev pub raw : List ℕ → Syntax
raw s = Then Gap (Bytes s)

abbrev pub regex : List ℕ → List ℕ → Syntax
regex exp flags = Then Gap (Then (Bytes (codes "/")) (Then (Bytes exp) (Then (Bytes (codes "/")) (Then (Bytes flags) Ended))))

-- ECMAScript's automatic semicolon insertion
abbrev pub semicolon : Syntax
semicolon = Either (token (codes ";")) LineEnd
