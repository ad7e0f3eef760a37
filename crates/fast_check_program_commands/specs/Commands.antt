-- The commands of the program `fast-check`, and what it does with its words and its file.
use Rattle.std.specs.Prelude.{◌≡◌, ℕ, Bool, List, codes, if◌then◌else◌, Option, Some, None}
use Rattle.std.specs.Str.{bytes_eq}
use Rattle.fast_check_program_requests.specs.declared.ending.Ending.{Ending}
use Rattle.fast_check_program_requests.specs.declared.refusal.Refusal.{Refusal}
use Rattle.fast_check_program_requests.specs.Call as call
use Rattle.fast_check_program_requests.specs.Call.{File}
use Rattle.fast_check_program_requests.specs.Run as run
use Rattle.fast_check_program_transform.specs.Transform as transform
use Rattle.fast_check_program_commands.specs.build_command.Build as build
use Rattle.fast_check_program_commands.specs.pair_command.Pair as pair
use Rattle.fast_check_program_commands.specs.declared.command.AnyCommand.{AnyCommand}
use Rattle.fast_check_program_commands.specs.declared.command.AnyCommand.TheVariants.{Transform, Build, Pair}

-- ---- the commands

-- the command of this name
abbrev pub command_named : List ℕ → Option AnyCommand
command_named name =
    if bytes_eq name (codes "transform") then Some Transform
    else if bytes_eq name (codes "build") then Some Build
    else if bytes_eq name (codes "pair") then Some Pair
    else None

-- the line with its status is its answer to these bytes
abbrev pub AnswersBytes : AnyCommand → List ℕ → List ℕ → ℕ → Type 0
AnswersBytes Transform bytes line status = transform.IsAnswerTo bytes line status
AnswersBytes Build bytes line status = build.IsAnswerTo bytes line status
AnswersBytes Pair bytes line status = pair.IsAnswerTo bytes line status

-- why it refuses them
abbrev pub RefusesBytes : AnyCommand → List ℕ → Refusal → Type 0
RefusesBytes Transform bytes refusal = transform.RefusesBytes refusal bytes
RefusesBytes Build bytes refusal = build.RefusesBytes refusal bytes
RefusesBytes Pair bytes refusal = pair.RefusesBytes refusal bytes

-- ---- the words and the file

-- the command that the words name, where one file stands behind it
abbrev pub called : List (List ℕ) → Option AnyCommand
called = call.called command_named

-- why the words or the file are refused: the words before all else, exactly where they call no command
abbrev pub RefusesCall : List (List ℕ) → File → Refusal → Type 0
RefusesCall = run.RefusesCall command_named RefusesBytes

-- the answer to them, a line with its status, which is 0 or 1
abbrev pub AnswersCall : List (List ℕ) → File → List ℕ → ℕ → Type 0
AnswersCall = run.AnswersCall command_named AnswersBytes

-- its line is taken
abbrev pub IsAnswered : {S : Type 0} → (S → List ℕ → Bool → S → Type 0) → List (List ℕ) → File → S → S → Ending →
    Type 0
IsAnswered takes = run.IsAnswered command_named AnswersBytes takes

-- it was tried, and is not taken
abbrev pub IsRefusedAnswer : {S : Type 0} → (S → List ℕ → Bool → S → Type 0) → List (List ℕ) → File → S → S → Type 0
IsRefusedAnswer takes = run.IsRefusedAnswer command_named AnswersBytes takes
