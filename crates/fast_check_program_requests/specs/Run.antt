-- What a program does with its words and its file, by what its commands answer to the bytes of a file.
use Rattle.std.specs.Prelude.{◌≡◌, ℕ, ◌<◌, IsTrue, Bool, true, false, List, Option, Some, None}
use Rattle.fast_check_program_requests.specs.declared.ending.Ending.{Ending}
use Rattle.fast_check_program_requests.specs.declared.refusal.Refusal.{Refusal}
use Rattle.fast_check_program_requests.specs.declared.refusal.Refusal.TheVariants as refusals
use Rattle.fast_check_program_requests.specs.Call.{called, File, OfFile}

-- a refusal that bytes may meet: not one of the words, of a file that is not read, or of an output
abbrev pub IsOfBytes : Refusal → Type 0
IsOfBytes refusals.Usage = ⊥
IsOfBytes refusals.Unreadable = ⊥
IsOfBytes refusals.Unwritable = ⊥
IsOfBytes _ = Unit {0}

-- ---- the words and the file

-- the words call a command, the file opens, and this holds of the command and the bytes
abbrev pub OfCall : {C : Type 0} → (List ℕ → Option C) → (C → List ℕ → Type 0) → List (List ℕ) → File → Type 0
OfCall {C} named P words file = (command : C) × (called named words ≡ Some command) × OfFile (P command) file

-- why the words or the file are refused: the words before all else
abbrev pub RefusesCall : {C : Type 0} → (List ℕ → Option C) → (C → List ℕ → Refusal → Type 0) → List (List ℕ) → File →
    Refusal → Type 0
RefusesCall named Refuses words file refusals.Usage = called named words ≡ None
RefusesCall {C} named Refuses words file refusals.Unreadable = (command : C) × (called named words ≡ Some command)
RefusesCall {C} named Refuses words file refusals.OutOfMemory =
    OfCall named (λ (command : C) bytes. Unit {0}) words file
RefusesCall named Refuses words file refusal = OfCall named (λ command bytes. Refuses command bytes refusal) words file

-- the answer to them, a line with its status, which is 0 or 1
abbrev pub AnswersCall : {C : Type 0} → (List ℕ → Option C) → (C → List ℕ → List ℕ → ℕ → Type 0) → List (List ℕ) →
    File → List ℕ → ℕ → Type 0
AnswersCall named Answers words file line status = (status < 2) ×
    OfCall named (λ command bytes. Answers command bytes line status) words file

-- ---- the streams: what one does is said of the stream before, the line, whether it was taken, and the stream after

-- the line of an answer is taken
abbrev pub IsAnswered : {C S : Type 0} → (List ℕ → Option C) → (C → List ℕ → List ℕ → ℕ → Type 0) →
    (S → List ℕ → Bool → S → Type 0) → List (List ℕ) → File → S → S → Ending → Type 0
IsAnswered named Answers takes words file old new ending =
    IsTrue ending.is_written ×
    ((line : List ℕ) × takes old line true new × AnswersCall named Answers words file line ending.status)

-- it was tried, and is not taken
abbrev pub IsRefusedAnswer : {C S : Type 0} → (List ℕ → Option C) → (C → List ℕ → List ℕ → ℕ → Type 0) →
    (S → List ℕ → Bool → S → Type 0) → List (List ℕ) → File → S → S → Type 0
IsRefusedAnswer named Answers takes words file old new =
    (line : List ℕ) × (status : ℕ) × takes old line false new × AnswersCall named Answers words file line status
