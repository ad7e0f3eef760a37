-- Inner: no contract of a public call cites what stands here.
-- What was asked of the system.
use Rattle.std.specs.Prelude.{Option, Some, None, Result, Ok, Err}
use Rattle.std.specs.declared.io.Error.{Error}
use Rattle.std.specs.declared.io.ErrorKind.{ErrorKind}
use Rattle.std.specs.declared.io.ErrorKind.TheVariants as kinds
use Rattle.std.specs.IoError.{error_kind}
use Rattle.fast_check_program_requests.specs.declared.refusal.Refusal.{Refusal}
use Rattle.fast_check_program_requests.specs.declared.refusal.Refusal.TheVariants as refusals

-- a failure of this kind is out of memory, or gives nothing
abbrev pub nothing_of : {A : Type 0} → ErrorKind → Result (Option A) Refusal
nothing_of kinds.OutOfMemory = Err refusals.OutOfMemory
nothing_of _ = Ok None

-- what was got, nothing where that failed, or out of memory
abbrev pub unless_out_of_memory : {A : Type 0} → Result A Error → Result (Option A) Refusal
unless_out_of_memory (Ok got) = Ok (Some got)
unless_out_of_memory (Err error) = nothing_of (error_kind error)
