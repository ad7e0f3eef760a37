-- The line that answers a build.
use Rattle.std.specs.Prelude.{◌≡◌, ℕ, List, ◌++◌, Bool, true, false, if◌then◌else◌, Ok, Err}
use Rattle.std.specs.List.{list_any}
use Rattle.serde_json.specs.Written.{compact_text}
use Rattle.fast_check_program_requests.specs.Refusal.{line_end}
use Rattle.fast_check_print.specs.Answers.{answers_data}
use Rattle.fast_check_build.specs.answers.PackageAnswer.{Answer}

-- a line of the compact JSON of the answers, in their order
abbrev pub line_of : List Answer → List ℕ
line_of answers = compact_text (answers_data answers) ++ line_end

-- it is diagnostics
abbrev pub has_diagnostics : Answer → Bool
has_diagnostics (specifier, Ok made) = false
has_diagnostics (specifier, Err diagnostics) = true

-- 0 where each is a skeleton, 1 where any is diagnostics
abbrev pub status_of : List Answer → ℕ
status_of answers = if list_any has_diagnostics answers then 1 else 0

-- the line of these answers, with its status
pub record IsLineOf (answers : List Answer) (line : List ℕ) (status : ℕ) : Type 0 where
  pub text : line ≡ line_of answers
  pub status_is : status ≡ status_of answers
