-- Bytes without a request are refused, and so are those whose request is.
use Rattle.std.proofs.Common.{ℕ, ◌<◌, List, inl, inr, subst, sym, lit<}
use Rattle.fast_check_program_requests.specs.declared.refusal.Refusal.{Refusal}
use Rattle.fast_check_program_requests.specs.declared.refusal.Refusal.TheVariants as refusals
use Rattle.fast_check_program_requests.specs.declared.request.TransformRequest.{TransformRequest}
use Rattle.fast_check_program_requests.specs.Input.{HoldsRequest, Lacks}
use Rattle.fast_check_program_requests.specs.Request.{request_of}
use Rattle.fast_check_program_requests.specs.Run.{IsOfBytes}
use Rattle.fast_check_tables_modules.specs.EsModule.{EsModule}
use Rattle.fast_check_program_transform.specs.Transform.{IsModuleOf, RefusesModule, AnswersRequest, RefusesRequest, RefusesBytes}

pub refused : (refusal : Refusal) (bytes : List ℕ) → Lacks request_of bytes refusal → RefusesBytes refusal bytes
refused refusal bytes lacks = inl lacks

pub request_refused : (refusal : Refusal) (bytes : List ℕ) (asked : TransformRequest) → HoldsRequest bytes asked →
    RefusesRequest asked refusal
    → RefusesBytes refusal bytes
request_refused refusal bytes asked holds refuses = inr (asked, holds, refuses)

pub answer_status : (asked : TransformRequest) (line : List ℕ) (status : ℕ) → AnswersRequest asked line status → status < 2
answer_status asked line status h =
    elim h.answer.1 [ inl a ↦ subst (λ n. n < 2) (sym a.0) (lit< tt) | inr a ↦ subst (λ n. n < 2) (sym a.0) (lit< tt) ]

-- bytes are not refused by the words, by their file or by an output
pub of_bytes : (refusal : Refusal) (bytes : List ℕ) → RefusesBytes refusal bytes → IsOfBytes refusal
of_bytes refusals.NotJson bytes refuses = tt
of_bytes refusals.BadForm bytes refuses = tt
of_bytes refusals.OutOfMemory bytes refuses = tt
of_bytes refusals.Usage bytes refuses = elim refuses [ inl h ↦ h | inr h ↦ h.2 ]
of_bytes refusals.Unreadable bytes refuses = elim refuses [ inl h ↦ h | inr h ↦ h.2 ]
of_bytes (refusals.TableFault fault) bytes refuses = tt
of_bytes refusals.RangesNotAdmitted bytes refuses = tt
of_bytes refusals.InvalidExport bytes refuses = tt
of_bytes refusals.Unwritable bytes refuses = elim refuses [ inl h ↦ h | inr h ↦ h.2 ]

pub module_refused : (refusal : Refusal) (asked : TransformRequest) (info : EsModule) → IsModuleOf asked.es_module info
    → RefusesModule info asked.public_ranges refusal → RefusesRequest asked refusal
module_refused refusals.RangesNotAdmitted asked info is refuses = record { info = info; is_module = is; not_admitted = refuses }
module_refused refusals.OutOfMemory asked info is refuses = tt
module_refused refusals.NotJson asked info is refuses = absurd refuses
module_refused refusals.BadForm asked info is refuses = absurd refuses
module_refused refusals.Usage asked info is refuses = absurd refuses
module_refused refusals.Unreadable asked info is refuses = absurd refuses
module_refused (refusals.TableFault fault) asked info is refuses = absurd refuses
module_refused refusals.InvalidExport asked info is refuses = absurd refuses
module_refused refusals.Unwritable asked info is refuses = absurd refuses
