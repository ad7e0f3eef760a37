-- The rows of the tables as data: a name is its bytes.
use Rattle.std.specs.Prelude.{ℕ, List, map}
use Rattle.std.specs.Borrow.{Bor}
use Rattle.fast_check_tree_syntax.specs.declared.kind.Word.{Word}
use Rattle.fast_check_read.specs.declared.schema.form.Form.{Form}
use Rattle.fast_check_read.specs.declared.schema.form.Count.{Count}

-- a field of a form: its name, what stands there, and how often
pub record FieldRow : Type 0 where
  pub name : List ℕ
  pub form : Form
  pub count : Count

-- a variant of a choice: its name and its content
pub record VariantRow : Type 0 where
  pub name : List ℕ
  pub form : Form

-- a word with its text
pub record WordRow : Type 0 where
  pub name : List ℕ
  pub word : Word

abbrev pub field_row : Bor (List ℕ) × Form × Count → FieldRow
field_row f = record { name = f.0.now; form = f.1; count = f.2 }

abbrev pub variant_row : Bor (List ℕ) × Form → VariantRow
variant_row v = record { name = v.0.now; form = v.1 }

abbrev pub word_row : Bor (List ℕ) × Word → WordRow
word_row w = record { name = w.0.now; word = w.1 }

-- the rows of a table of the code
abbrev pub field_table : List (record { now : List ℕ } × Form × Count) → List FieldRow
field_table fs = map (λ f. record { name = f.0.now; form = f.1; count = f.2 }) fs

abbrev pub variant_table : List (record { now : List ℕ } × Form) → List VariantRow
variant_table vs = map (λ v. record { name = v.0.now; form = v.1 }) vs

abbrev pub word_table : List (record { now : List ℕ } × Word) → List WordRow
word_table ws = map (λ w. record { name = w.0.now; word = w.1 }) ws
