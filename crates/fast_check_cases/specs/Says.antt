-- A text that is written piece by piece: its bytes, or None once a piece was left out where memory ran out.
use Rattle.std.specs.Prelude.{◌≡◌, ℕ, List, ◌++◌, Option, option_map, OnSome, Bool, true, false, codes}

abbrev pub SaidText : Type 0
SaidText = Option (List ℕ)

-- the written text with a piece behind it
abbrev pub followed_by : List ℕ → SaidText → SaidText
followed_by piece told = option_map (λ text. text ++ piece) told

-- A piece is written: it stands behind the old text, or it was left out.
abbrev pub Says : List ℕ → SaidText → SaidText → Type 0
Says piece old new = OnSome new (new ≡ followed_by piece old)

abbrev pub text_of_flag : Bool → List ℕ
text_of_flag true = codes "true"
text_of_flag false = codes "false"
