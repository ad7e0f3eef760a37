-- What the bytes of a file ask of `pair`.
use Rattle.std.specs.Prelude.{◌≡◌, ℕ, List, Some}
use Rattle.fast_check_program_requests.specs.Input.{OfJson}
use Rattle.fast_check_program_commands.specs.declared.pair_command.request.PairRequest.{PairRequest}
use Rattle.fast_check_program_commands.specs.pair_command.Request.{Pair, pair_of, IsPair}

-- they are the JSON of a request
abbrev pub HoldsPair : List ℕ → PairRequest → Type 0
HoldsPair bytes made = OfJson (λ value. (pair : Pair) × (pair_of value ≡ Some pair) × IsPair pair made) bytes
