-- What the program is called with: its words, and the file that they name.
use Rattle.std.specs.Prelude.{ℕ, List, [], ◌∷◌, Option, Some, None}
use Rattle.fast_check_program_requests.specs.declared.refusal.Refusal.{Refusal}
use Rattle.fast_check_program_requests.specs.declared.refusal.Refusal.TheVariants as refusals

-- the command that the words name, where one file stands behind it
abbrev pub called : {C : Type 0} → (List ℕ → Option C) → List (List ℕ) → Option C
called named (name ∷ file ∷ []) = named name
called named _ = None

-- nothing where it does not open, else its bytes, where they are known
abbrev pub File : Type 0
File = Option (Option (List ℕ))

-- it opens, and this holds of its bytes; of some bytes, where they are not known
abbrev pub OfFile : (List ℕ → Type 0) → File → Type 0
OfFile P None = ⊥
OfFile P (Some None) = (bytes : List ℕ) × P bytes
OfFile P (Some (Some bytes)) = P bytes

-- why it is not read: any reader may fail, and memory may run out once there is one
abbrev pub IsReadRefusal : File → Refusal → Type 0
IsReadRefusal file refusals.Unreadable = Unit {0}
IsReadRefusal file refusals.OutOfMemory = OfFile (λ bytes. Unit {0}) file
IsReadRefusal file _ = ⊥
