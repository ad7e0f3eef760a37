-- A file that is not read, of words that call a command.
use Rattle.std.proofs.Common.{◌≡◌, ℕ, List, Option, Some}
use Rattle.fast_check_program_requests.specs.declared.refusal.Refusal.{Refusal}
use Rattle.fast_check_program_requests.specs.declared.refusal.Refusal.TheVariants as refusals
use Rattle.fast_check_program_requests.specs.Call.{called, File, IsReadRefusal}
use Rattle.fast_check_program_requests.specs.Run.{RefusesCall}

pub read_refused : {C : Type 0} (named : List ℕ → Option C) (Refuses : C → List ℕ → Refusal → Type 0) (words : List (List ℕ)) (file : File)
    (command : C) (refusal : Refusal) → called named words ≡ Some command → IsReadRefusal file refusal →
    RefusesCall named Refuses words file refusal
read_refused named Refuses words file command refusals.Unreadable is r = (command, is)
read_refused named Refuses words file command refusals.OutOfMemory is r = (command, is, r)
read_refused named Refuses words file command refusals.Usage is r = absurd r
read_refused named Refuses words file command refusals.NotJson is r = absurd r
read_refused named Refuses words file command refusals.BadForm is r = absurd r
read_refused named Refuses words file command (refusals.TableFault fault) is r = absurd r
read_refused named Refuses words file command refusals.RangesNotAdmitted is r = absurd r
read_refused named Refuses words file command refusals.InvalidExport is r = absurd r
read_refused named Refuses words file command refusals.Unwritable is r = absurd r
