-- What a writer holds once a value is written to it.
use Rattle.std.specs.Prelude.{◌≡◌, ℕ, List, [], ◌∷◌, ◌++◌}
use Rattle.json.specs.Token.{Token, begin_object, key}
use Rattle.json.specs.Tree.{json_tokens}
use Rattle.json.specs.Written.{Written}
use Rattle.serde_json.specs.Data.{Data}
use Rattle.serde_json.specs.Written.{outline}

-- these tokens come after those that it held
pub record Adds (tokens : List Token) (old new : Written) : Type 0 where
  pub before : new.before ≡ old.before
  pub tokens_now : new.tokens ≡ old.tokens ++ tokens

-- the tokens of a value that has no float
abbrev pub tokens_of : Data → List Token
tokens_of value = json_tokens (outline value)

-- the value is written
abbrev pub WritesData : Data → Written → Written → Type 0
WritesData value = Adds (tokens_of value)

-- objects within one another, each with a key, none of them closed
abbrev pub opening : List (List ℕ) → List Token
opening [] = []
opening (name ∷ names) = begin_object ∷ key name ∷ opening names
