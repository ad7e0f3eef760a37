-- What is put together of what is read.
use Rattle.std.specs.Prelude.{List, [], ◌∷◌, Result, Ok, Err}
use Rattle.fast_check_read.specs.declared.error.ReadError.{ReadError}
use Rattle.fast_check_read.specs.declared.error.ReadError.TheVariants.{OutOfMemory}

-- items put one after another
abbrev pub all_gathered : {S X : Type 0} → (S → X → S) → S → List X → S
all_gathered with gathered [] = gathered
all_gathered with gathered (x ∷ xs) = all_gathered with (with gathered x) xs

-- an error beside what else is read: out of memory goes before
abbrev pub error_beside : {B : Type 0} → ReadError → Result B ReadError → ReadError
error_beside error (Err OutOfMemory) = OutOfMemory
error_beside error _ = error

-- both values, or the error
abbrev pub both_read : {A B : Type 0} → Result A ReadError → Result B ReadError → Result (A × B) ReadError
both_read (Ok a) (Ok b) = Ok (a, b)
both_read (Ok a) (Err error) = Err error
both_read (Err error) second = Err (error_beside error second)
