-- The rows of the table as data: a text is its bytes.
use Rattle.std.specs.Prelude.{ℕ, List, map}
use Rattle.std.specs.Borrow.{Bor}
use Rattle.fast_check_syntax_table.specs.declared.piece.When.{When}
use Rattle.fast_check_syntax_table.specs.declared.piece.What.{What}

pub record Row : Type 0 where
  pub when : When
  pub what : What
  pub text : List ℕ

abbrev pub row : When × What × Bor (List ℕ) → Row
row p = record { when = p.0; what = p.1; text = p.2.now }

-- the rows of a table of the code
abbrev pub rows_of : List (When × What × record { now : List ℕ }) → List Row
rows_of ps = map (λ p. record { when = p.0; what = p.1; text = p.2.now }) ps
