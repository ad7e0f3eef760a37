-- What the bytes of a file ask of `build`.
use Rattle.std.specs.Prelude.{◌≡◌, ℕ, List, Some}
use Rattle.fast_check_program_requests.specs.Input.{OfJson}
use Rattle.fast_check_program_requests.specs.declared.build_requests.request.BuildRequest.{BuildRequest}
use Rattle.fast_check_program_requests.specs.build_requests.Request.{build, build_of}

-- they are the JSON of a request
abbrev pub HoldsBuild : List ℕ → BuildRequest → Type 0
HoldsBuild bytes made = OfJson (λ value. build_of value ≡ Some (build made)) bytes
