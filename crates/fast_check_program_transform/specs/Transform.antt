-- What the command `transform` answers to the bytes of a file.
use Rattle.std.specs.Prelude.{◌≡◌, ℕ, List, Bool}
use Rattle.fast_check_tables_graph.specs.declared.graph.ModuleGraph.{ModuleGraph}
use Rattle.fast_check_tables_modules.specs.EsModule.{EsModule, Admits}
use Rattle.fast_check_tables_modules.specs.symbols.WellFormed.{AreMadeOf}
use Rattle.fast_check_tables_modules.specs.FitProgram.{FitProgram, IsModuleFault}
use Rattle.fast_check_program_requests.specs.declared.refusal.Refusal.{Refusal}
use Rattle.fast_check_program_requests.specs.declared.refusal.Refusal.TheVariants as refusals
use Rattle.fast_check_program_requests.specs.declared.request.EsModuleParts.{EsModuleParts}
use Rattle.fast_check_program_requests.specs.declared.request.TransformRequest.{TransformRequest}
use Rattle.fast_check_program_requests.specs.Input.{HoldsRequest, RefusesBy}
use Rattle.fast_check_program_requests.specs.Request.{request_of}
use Rattle.fast_check_tables_modules.specs.diagnostics.PublicRanges.{PublicRanges}
use Rattle.fast_check_program_transform.specs.Line.{IsAnswer}

-- ---- a request

-- the module of these parts, whose tables have no fault
pub record IsModuleOf (parts : EsModuleParts) (info : EsModule) : Type 0 where
  pub specifier : info.specifier ≡ parts.specifier
  pub source : info.source ≡ parts.source
  pub tables : AreMadeOf parts.tables info.tables
  pub without_fault : FitProgram parts.tables parts.source.program

-- the line is the answer to a module whose ranges are admitted
abbrev pub AnswersModule : ModuleGraph → EsModule → PublicRanges → Bool → List ℕ → ℕ → Type 0
AnswersModule graph info public first line status = Admits info public × IsAnswer graph info public first line status

-- why a module is refused: its ranges are not admitted; memory may run out at any
abbrev pub RefusesModule : EsModule → PublicRanges → Refusal → Type 0
RefusesModule info public refusals.RangesNotAdmitted = ¬ Admits info public
RefusesModule info public refusals.OutOfMemory = Unit {0}
RefusesModule info public _ = ⊥

-- the line is its answer
pub record AnswersRequest (asked : TransformRequest) (line : List ℕ) (status : ℕ) : Type 0 where
  pub info : EsModule
  pub is_module : IsModuleOf asked.es_module info
  pub answer : AnswersModule asked.graph info asked.public_ranges asked.should_error_on_first_diagnostic line status

-- its ranges are not admitted
pub record IsNotAdmitted (asked : TransformRequest) : Type 0 where
  pub info : EsModule
  pub is_module : IsModuleOf asked.es_module info
  pub not_admitted : ¬ Admits info asked.public_ranges

-- why it is refused: faults of tables before all else; memory may run out at any request
abbrev pub RefusesRequest : TransformRequest → Refusal → Type 0
RefusesRequest asked (refusals.TableFault fault) =
    IsModuleFault asked.es_module.tables asked.es_module.source.program fault
RefusesRequest asked refusals.RangesNotAdmitted = IsNotAdmitted asked
RefusesRequest asked refusals.OutOfMemory = Unit {0}
RefusesRequest asked _ = ⊥

-- ---- the bytes of the file

-- the line is the answer to the request in them
abbrev pub IsAnswerTo : List ℕ → List ℕ → ℕ → Type 0
IsAnswerTo bytes line status =
    (asked : TransformRequest) × HoldsRequest bytes asked × AnswersRequest asked line status

-- why they are refused
abbrev pub RefusesBytes : Refusal → List ℕ → Type 0
RefusesBytes refusal bytes = RefusesBy request_of HoldsRequest RefusesRequest bytes refusal
