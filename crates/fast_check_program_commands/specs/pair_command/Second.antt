-- Inner: no contract of a public call cites what stands here.
-- What a pair is answered, and why it is refused, once the tables of its first module have no fault.
use Rattle.std.specs.Prelude.{ℕ, List, Bool}
use Rattle.fast_check_tables_graph.specs.declared.graph.ModuleGraph.{ModuleGraph}
use Rattle.fast_check_tables_modules.specs.EsModule.{EsModule}
use Rattle.fast_check_tables_modules.specs.diagnostics.PublicRanges.{PublicRanges}
use Rattle.fast_check_program_requests.specs.declared.refusal.Refusal.{Refusal}
use Rattle.fast_check_program_requests.specs.declared.refusal.Refusal.TheVariants as refusals
use Rattle.fast_check_program_transform.specs.Transform.{IsModuleOf}
use Rattle.fast_check_program_commands.specs.declared.pair_command.request.Side.{Side}
use Rattle.fast_check_program_commands.specs.pair_command.Pair.{AdmitBoth, AnswersModules, IsFaultOf}

-- the line is the answer to this module and the second
abbrev pub AnswersSecond : ModuleGraph → EsModule → PublicRanges → Side → Bool → List ℕ → ℕ → Type 0
AnswersSecond graph a ranges_a side first line status =
    (b : EsModule) × IsModuleOf side.es_module b ×
    AnswersModules graph a ranges_a b side.public_ranges first line status

-- why they are refused: by a fault of the second, or else by ranges
abbrev pub RefusesSecond : EsModule → PublicRanges → Side → Refusal → Type 0
RefusesSecond a ranges_a side (refusals.TableFault fault) = IsFaultOf side fault
RefusesSecond a ranges_a side refusals.RangesNotAdmitted =
    (b : EsModule) × IsModuleOf side.es_module b × (¬ AdmitBoth a ranges_a b side.public_ranges)
RefusesSecond a ranges_a side refusals.OutOfMemory = Unit {0}
RefusesSecond a ranges_a side _ = ⊥
