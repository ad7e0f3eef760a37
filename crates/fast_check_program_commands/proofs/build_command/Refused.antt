-- Bytes without a request are refused, and so are those whose request is.
use Rattle.std.proofs.Common.{◌≡◌, ℕ, ◌<◌, Bool, true, false, if◌then◌else◌, List, inl, inr, subst, sym, lit<}
use Rattle.std.specs.List.{list_any}
use Rattle.fast_check_tables_packages.specs.declared.listed.ListedPackages.{ListedPackages}
use Rattle.fast_check_tables_graph.specs.declared.root_symbol.RootSymbol.{RootSymbol}
use Rattle.fast_check_program_requests.specs.declared.refusal.Refusal.{Refusal}
use Rattle.fast_check_program_requests.specs.declared.refusal.Refusal.TheVariants as refusals
use Rattle.fast_check_program_requests.specs.declared.build_requests.request.BuildRequest.{BuildRequest}
use Rattle.fast_check_program_requests.specs.Run.{IsOfBytes}
use Rattle.fast_check_program_requests.specs.Input.{Lacks}
use Rattle.fast_check_program_requests.specs.build_requests.Input.{HoldsBuild}
use Rattle.fast_check_program_requests.specs.build_requests.Request.{build_of}
use Rattle.fast_check_program_commands.specs.build_command.Line.{has_diagnostics}
use Rattle.fast_check_program_commands.specs.build_command.Build.{known_by, known_in, roots_in, IsRootIn, IsExportRefusal, AnswersBuild}
use Rattle.fast_check_program_commands.specs.build_command.Build.{RefusesBuild, RefusesBytes}

pub refused : (refusal : Refusal) (bytes : List ℕ) → Lacks build_of bytes refusal → RefusesBytes refusal bytes
refused refusal bytes lacks = inl lacks

pub request_refused : (refusal : Refusal) (bytes : List ℕ) (asked : BuildRequest) → HoldsBuild bytes asked → RefusesBuild asked refusal
    → RefusesBytes refusal bytes
request_refused refusal bytes asked holds refuses = inr (asked, holds, refuses)

-- where the modules of a request stand, so are its packages
pub export_refused : (refusal : Refusal) (asked : BuildRequest) (root : RootSymbol) → IsRootIn asked root
    → IsExportRefusal (known_in asked root) (roots_in asked) refusal → RefusesBuild asked refusal
export_refused refusals.NotJson asked root is refuses = absurd refuses
export_refused refusals.BadForm asked root is refuses = absurd refuses
export_refused refusals.OutOfMemory asked root is refuses = tt
export_refused refusals.Usage asked root is refuses = absurd refuses
export_refused refusals.Unreadable asked root is refuses = absurd refuses
export_refused (refusals.TableFault fault) asked root is refuses = absurd refuses
export_refused refusals.RangesNotAdmitted asked root is refuses = absurd refuses
export_refused refusals.InvalidExport asked root is refuses = record { root = root; is_root = is; invalid = refuses }
export_refused refusals.Unwritable asked root is refuses = absurd refuses

-- the same where the packages are listed as they are asked
pub export_refused_of : (refusal : Refusal) (asked : BuildRequest) (root : RootSymbol) (listed : ListedPackages) → listed ≡ asked.provider
    → IsRootIn asked root → IsExportRefusal (known_by asked.graph root asked.workspace_members.items listed) (roots_in asked) refusal
    → RefusesBuild asked refusal
export_refused_of refusal asked root listed same is refuses =
    export_refused refusal asked root is
    (subst (λ (l : ListedPackages). IsExportRefusal (known_by asked.graph root asked.workspace_members.items l)
    (roots_in asked) refusal) same refuses)

one_or_none : (b : Bool) → (if b then 1 else 0) < 2
one_or_none true = lit< tt
one_or_none false = lit< tt

pub answer_status : (asked : BuildRequest) (line : List ℕ) (status : ℕ) → AnswersBuild asked line status → status < 2
answer_status asked line status h = subst (λ n. n < 2) (sym h.is_line.status_is) (one_or_none (list_any has_diagnostics h.answers))

-- bytes are not refused by the words, by their file or by an output
pub of_bytes : (refusal : Refusal) (bytes : List ℕ) → RefusesBytes refusal bytes → IsOfBytes refusal
of_bytes refusals.NotJson bytes refuses = tt
of_bytes refusals.BadForm bytes refuses = tt
of_bytes refusals.OutOfMemory bytes refuses = tt
of_bytes refusals.Usage bytes refuses = elim refuses [ inl h ↦ h | inr h ↦ h.2 ]
of_bytes refusals.Unreadable bytes refuses = elim refuses [ inl h ↦ h | inr h ↦ h.2 ]
of_bytes (refusals.TableFault fault) bytes refuses = tt
of_bytes refusals.RangesNotAdmitted bytes refuses = tt
of_bytes refusals.InvalidExport bytes refuses = tt
of_bytes refusals.Unwritable bytes refuses = elim refuses [ inl h ↦ h | inr h ↦ h.2 ]
