-- Bytes without a request are refused, and so are those whose request is.
use Rattle.std.proofs.Common.{ℕ, ◌<◌, List, Ok, Err, inl, inr, subst, sym, lit<}
use Rattle.fast_check_program_requests.specs.declared.refusal.Refusal.{Refusal}
use Rattle.fast_check_program_requests.specs.declared.refusal.Refusal.TheVariants as refusals
use Rattle.fast_check_program_requests.specs.Run.{IsOfBytes}
use Rattle.fast_check_tables_modules.specs.EsModule.{EsModule}
use Rattle.fast_check_tables_modules.specs.diagnostics.PublicRanges.{PublicRanges}
use Rattle.fast_check_program_transform.specs.Transform.{IsModuleOf}
use Rattle.fast_check_transform_pair.specs.Transformed.{TransformResult}
use Rattle.fast_check_program_commands.specs.declared.pair_command.request.PairRequest.{PairRequest}
use Rattle.fast_check_program_commands.specs.declared.pair_command.request.Side.{Side}
use Rattle.fast_check_program_requests.specs.Input.{Lacks}
use Rattle.fast_check_program_commands.specs.pair_command.Input.{HoldsPair}
use Rattle.fast_check_program_commands.specs.pair_command.Request.{pair_of}
use Rattle.fast_check_program_commands.specs.pair_command.Line.{status_of}
use Rattle.fast_check_program_commands.specs.pair_command.Pair.{RefusesModules, AnswersPair, RefusesPair, RefusesBytes}
use Rattle.fast_check_program_commands.specs.pair_command.Second.{RefusesSecond}

pub refused : (refusal : Refusal) (bytes : List ℕ) → Lacks pair_of bytes refusal → RefusesBytes refusal bytes
refused refusal bytes lacks = inl lacks

pub request_refused : (refusal : Refusal) (bytes : List ℕ) (asked : PairRequest) → HoldsPair bytes asked → RefusesPair asked refusal
    → RefusesBytes refusal bytes
request_refused refusal bytes asked holds refuses = inr (asked, holds, refuses)

-- ranges that are refused, and a second module that is
pub modules_refused : (refusal : Refusal) (a b : EsModule) (ranges_a : PublicRanges) (side : Side) → IsModuleOf side.es_module b
    → RefusesModules a ranges_a b side.public_ranges refusal → RefusesSecond a ranges_a side refusal
modules_refused refusals.RangesNotAdmitted a b ranges_a side made refuses = (b, made, refuses)
modules_refused refusals.OutOfMemory a b ranges_a side made refuses = tt
modules_refused refusals.NotJson a b ranges_a side made refuses = absurd refuses
modules_refused refusals.BadForm a b ranges_a side made refuses = absurd refuses
modules_refused refusals.Usage a b ranges_a side made refuses = absurd refuses
modules_refused refusals.Unreadable a b ranges_a side made refuses = absurd refuses
modules_refused (refusals.TableFault fault) a b ranges_a side made refuses = absurd refuses
modules_refused refusals.InvalidExport a b ranges_a side made refuses = absurd refuses
modules_refused refusals.Unwritable a b ranges_a side made refuses = absurd refuses

pub second_refused : (refusal : Refusal) (asked : PairRequest) (a : EsModule) → IsModuleOf asked.a.es_module a
    → RefusesSecond a asked.a.public_ranges asked.b refusal → RefusesPair asked refusal
second_refused (refusals.TableFault fault) asked a made refuses = inr (made.without_fault, refuses)
second_refused refusals.RangesNotAdmitted asked a made refuses = record {
  a = a;
  b = refuses.0;
  are_modules = record { first = made; second = refuses.1 };
  not_admitted = refuses.2;
}
second_refused refusals.OutOfMemory asked a made refuses = tt
second_refused refusals.NotJson asked a made refuses = absurd refuses
second_refused refusals.BadForm asked a made refuses = absurd refuses
second_refused refusals.Usage asked a made refuses = absurd refuses
second_refused refusals.Unreadable asked a made refuses = absurd refuses
second_refused refusals.InvalidExport asked a made refuses = absurd refuses
second_refused refusals.Unwritable asked a made refuses = absurd refuses

zero_or_one : (x y : TransformResult) → status_of x y < 2
zero_or_one (Ok m) (Ok n) = lit< tt
zero_or_one (Ok m) (Err es) = lit< tt
zero_or_one (Err ds) (Ok n) = lit< tt
zero_or_one (Err ds) (Err es) = lit< tt

pub answer_status : (asked : PairRequest) (line : List ℕ) (status : ℕ) → AnswersPair asked line status → status < 2
answer_status asked line status h =
    let answer = h.answer.1 in
    subst (λ n. n < 2) (sym answer.status_is) (zero_or_one answer.first answer.second)

-- bytes are not refused by the words, by their file or by an output
pub of_bytes : (refusal : Refusal) (bytes : List ℕ) → RefusesBytes refusal bytes → IsOfBytes refusal
of_bytes refusals.NotJson bytes refuses = tt
of_bytes refusals.BadForm bytes refuses = tt
of_bytes refusals.OutOfMemory bytes refuses = tt
of_bytes refusals.Usage bytes refuses = elim refuses [ inl h ↦ h | inr h ↦ h.2 ]
of_bytes refusals.Unreadable bytes refuses = elim refuses [ inl h ↦ h | inr h ↦ h.2 ]
of_bytes (refusals.TableFault fault) bytes refuses = tt
of_bytes refusals.RangesNotAdmitted bytes refuses = tt
of_bytes refusals.InvalidExport bytes refuses = tt
of_bytes refusals.Unwritable bytes refuses = elim refuses [ inl h ↦ h | inr h ↦ h.2 ]
