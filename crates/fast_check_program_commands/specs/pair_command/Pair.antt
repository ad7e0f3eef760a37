-- What the command `pair` answers to the bytes of a file.
use Rattle.std.specs.Prelude.{ℕ, List, Bool, ◌⊎◌}
use Rattle.fast_check_tables_graph.specs.declared.graph.ModuleGraph.{ModuleGraph}
use Rattle.fast_check_tables_modules.specs.EsModule.{EsModule, Admits}
use Rattle.fast_check_tables_modules.specs.FitProgram.{FitProgram, IsModuleFault}
use Rattle.fast_check_tables_modules.specs.diagnostics.PublicRanges.{PublicRanges}
use Rattle.fast_check_tables_modules.specs.symbols.declared.fault.TableFault.{TableFault}
use Rattle.fast_check_program_requests.specs.declared.refusal.Refusal.{Refusal}
use Rattle.fast_check_program_requests.specs.declared.refusal.Refusal.TheVariants as refusals
use Rattle.fast_check_program_requests.specs.Input.{RefusesBy}
use Rattle.fast_check_program_transform.specs.Transform.{IsModuleOf}
use Rattle.fast_check_program_commands.specs.declared.pair_command.request.PairRequest.{PairRequest}
use Rattle.fast_check_program_commands.specs.declared.pair_command.request.Side.{Side}
use Rattle.fast_check_program_commands.specs.pair_command.Input.{HoldsPair}
use Rattle.fast_check_program_commands.specs.pair_command.Line.{IsPairAnswer}
use Rattle.fast_check_program_commands.specs.pair_command.Request.{pair_of}

-- ---- two modules

-- the ranges of both are admitted
abbrev pub AdmitBoth : EsModule → PublicRanges → EsModule → PublicRanges → Type 0
AdmitBoth a ranges_a b ranges_b = Admits a ranges_a × Admits b ranges_b

-- the line is the answer to both
abbrev pub AnswersModules : ModuleGraph → EsModule → PublicRanges → EsModule → PublicRanges → Bool → List ℕ → ℕ → Type 0
AnswersModules graph a ranges_a b ranges_b first line status =
    AdmitBoth a ranges_a b ranges_b × IsPairAnswer graph a ranges_a b ranges_b first line status

-- why they are refused: ranges of either are not admitted; memory may run out at any
abbrev pub RefusesModules : EsModule → PublicRanges → EsModule → PublicRanges → Refusal → Type 0
RefusesModules a ranges_a b ranges_b refusals.RangesNotAdmitted = ¬ AdmitBoth a ranges_a b ranges_b
RefusesModules a ranges_a b ranges_b refusals.OutOfMemory = Unit {0}
RefusesModules a ranges_a b ranges_b _ = ⊥

-- ---- a request

-- both modules of it, whose tables have no fault
pub record AreModules (asked : PairRequest) (a b : EsModule) : Type 0 where
  pub first : IsModuleOf asked.a.es_module a
  pub second : IsModuleOf asked.b.es_module b

-- the line is its answer
pub record AnswersPair (asked : PairRequest) (line : List ℕ) (status : ℕ) : Type 0 where
  pub a : EsModule
  pub b : EsModule
  pub are_modules : AreModules asked a b
  pub answer : AnswersModules asked.graph a asked.a.public_ranges b asked.b.public_ranges
      asked.should_error_on_first_diagnostic line status

-- ranges of either module are not admitted
pub record IsNotAdmitted (asked : PairRequest) : Type 0 where
  pub a : EsModule
  pub b : EsModule
  pub are_modules : AreModules asked a b
  pub not_admitted : ¬ AdmitBoth a asked.a.public_ranges b asked.b.public_ranges

-- the first fault of a module's tables, and whether they have none
abbrev pub IsFaultOf : Side → TableFault → Type 0
IsFaultOf side fault = IsModuleFault side.es_module.tables side.es_module.source.program fault

abbrev pub IsWithoutFault : Side → Type 0
IsWithoutFault side = FitProgram side.es_module.tables side.es_module.source.program

-- why it is refused: by a fault of the first module's tables, or else of the second's, before all else; memory may run
-- out at any request
abbrev pub RefusesPair : PairRequest → Refusal → Type 0
RefusesPair asked (refusals.TableFault fault) = IsFaultOf asked.a fault ⊎
    (IsWithoutFault asked.a × IsFaultOf asked.b fault)
RefusesPair asked refusals.RangesNotAdmitted = IsNotAdmitted asked
RefusesPair asked refusals.OutOfMemory = Unit {0}
RefusesPair asked _ = ⊥

-- ---- the bytes of the file

-- the line is the answer to the request in them
abbrev pub IsAnswerTo : List ℕ → List ℕ → ℕ → Type 0
IsAnswerTo bytes line status = (asked : PairRequest) × HoldsPair bytes asked × AnswersPair asked line status

-- why they are refused
abbrev pub RefusesBytes : Refusal → List ℕ → Type 0
RefusesBytes refusal bytes = RefusesBy pair_of HoldsPair RefusesPair bytes refusal
