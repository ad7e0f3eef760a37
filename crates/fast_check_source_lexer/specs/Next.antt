-- What it is to be the next token of a text.
use Rattle.std.specs.Prelude.{◌≡◌, ◌≢◌, ℕ, ◌<◌, ◌≤◌, ◌↔◌, List, length, IsTrue}
use Rattle.fast_check_source_lexer.specs.Gaps.{IsGap, IsPiece, HoldsLineEnd}
use Rattle.fast_check_source_lexer.specs.declared.scan.Token.{Token}
use Rattle.fast_check_source_lexer.specs.declared.kind.TokenKind.TheVariants.{End}

-- It begins behind a gap at the place, and takes some of the text, but at the text's end alone.
pub record IsNext (z : List ℕ) (at : ℕ) (t : Token) : Type 0 where
  pub gap : IsGap z at t.start
  -- Where it begins no white space and no comment does.
  pub whole : (b : ℕ) → t.start < b → IsPiece z t.start b → ⊥
  pub lines : IsTrue t.newline ↔ HoldsLineEnd z at t.start
  pub begins : at ≤ t.start
  pub ends : t.start ≤ t.end
  pub within : t.end ≤ length z
  pub takes : t.kind ≢ End → t.start < t.end
  pub last : t.kind ≡ End → t.start ≡ length z

-- A token read again from where it began: it takes some of the text.
pub record IsAgain (z : List ℕ) (old : Token) (t : Token) : Type 0 where
  pub begins : t.start ≡ old.start
  pub takes : t.start < t.end
  pub within : t.end ≤ length z
