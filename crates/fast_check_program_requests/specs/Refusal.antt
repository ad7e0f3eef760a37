-- Why the program has no answer, and what it says then.
use Rattle.std.specs.Prelude.{◌≡◌, ℕ, Bool, List, ◌++◌, codes}
use Rattle.fast_check_tables_modules.specs.symbols.declared.fault.TableFault as table_fault
use Rattle.fast_check_tables_modules.specs.symbols.declared.fault.TableFault.TheVariants as table_faults
use Rattle.fast_check_read.specs.declared.error.ReadError.{ReadError}
use Rattle.fast_check_read.specs.declared.error.ReadError.TheVariants as read_errors
use Rattle.fast_check_read.specs.declared.input.InputFault.{InputFault}
use Rattle.fast_check_read.specs.declared.input.InputFault.TheVariants as faults
use Rattle.fast_check_program_requests.specs.declared.ending.Ending.{Ending}
use Rattle.fast_check_program_requests.specs.declared.refusal.Refusal.{Refusal}
use Rattle.fast_check_program_requests.specs.declared.refusal.Refusal.TheVariants.{Usage, Unreadable, NotJson, BadForm}
use Rattle.fast_check_program_requests.specs.declared.refusal.Refusal.TheVariants.{TableFault, RangesNotAdmitted, InvalidExport}
use Rattle.fast_check_program_requests.specs.declared.refusal.Refusal.TheVariants.{Unwritable, OutOfMemory}

-- what a line ends with
abbrev pub line_end : List ℕ
line_end = codes "\n"

-- the line of a fault of tables, by its number; out of memory is reported as everywhere
abbrev pub line_of_fault : table_fault.TableFault → List ℕ
line_of_fault table_faults.MissingSymbol = codes "error: input refused: table-fault 1" ++ line_end
line_of_fault table_faults.SymbolWithoutDecl = codes "error: input refused: table-fault 2" ++ line_end
line_of_fault table_faults.ModuleNotUnderOwnName = codes "error: input refused: table-fault 3" ++ line_end
line_of_fault table_faults.ExpandoWithoutSymbol = codes "error: input refused: table-fault 4" ++ line_end
line_of_fault table_faults.OutOfMemory = codes "error: out of memory" ++ line_end

-- the line that is written to standard error
abbrev pub line_of : Refusal → List ℕ
line_of Usage = codes "usage: fast-check (build|transform|pair) FILE" ++ line_end
line_of Unreadable = codes "error: input refused: unreadable" ++ line_end
line_of NotJson = codes "error: input refused: not-json" ++ line_end
line_of BadForm = codes "error: input refused: bad-form" ++ line_end
line_of (TableFault fault) = line_of_fault fault
line_of RangesNotAdmitted = codes "error: input refused: ranges-not-admitted" ++ line_end
line_of InvalidExport = codes "error: input refused: invalid-export" ++ line_end
line_of Unwritable = codes "error: output refused" ++ line_end
line_of OutOfMemory = codes "error: out of memory" ++ line_end

-- the status that the program ends with: 2 where the words or the input are refused, 3 where memory ran out, 4 where
-- the answer is not taken
abbrev pub status_of : Refusal → ℕ
status_of OutOfMemory = 3
status_of (TableFault table_faults.OutOfMemory) = 3
status_of Unwritable = 4
status_of _ = 2

-- of bytes that are no JSON value
abbrev pub refusal_of_fault : InputFault → Refusal
refusal_of_fault faults.NotJson = NotJson
refusal_of_fault faults.OutOfMemory = OutOfMemory

-- of a JSON value that is not of the form
abbrev pub refusal_of_error : ReadError → Refusal
refusal_of_error read_errors.BadForm = BadForm
refusal_of_error read_errors.OutOfMemory = OutOfMemory

-- the refusal gives the status, and its line is what the stream was asked to take: what a stream does is said of the
-- stream before, the line, whether it was taken, and the stream after
abbrev pub WritesRefusal : {S : Type 0} → (S → List ℕ → Bool → S → Type 0) → Refusal → S → S → Ending → Type 0
WritesRefusal takes refusal old new ending = (ending.status ≡ status_of refusal) ×
    takes old (line_of refusal) ending.is_written new
