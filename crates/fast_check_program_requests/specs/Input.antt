-- What the bytes of a file ask.
use Rattle.std.specs.Prelude.{◌≡◌, ℕ, List, Option, Some, None, IsUtf8, ◌⊎◌}
use Rattle.serde_json.specs.Data.{Data}
use Rattle.serde_json.specs.Read.{read}
use Rattle.fast_check_program_requests.specs.declared.refusal.Refusal.{Refusal}
use Rattle.fast_check_program_requests.specs.declared.refusal.Refusal.TheVariants as refusals
use Rattle.fast_check_program_requests.specs.declared.request.TransformRequest.{TransformRequest}
use Rattle.fast_check_program_requests.specs.Request.{Request, request_of, IsRequest}

-- they are the JSON of a value, of which this holds
pub record OfJson (P : Data → Type 0) (bytes : List ℕ) : Type 0 where
  pub value : Data
  pub utf8 : IsUtf8 bytes
  pub json : read bytes ≡ Some value
  pub holds : P value

-- they are no JSON value
abbrev pub IsNotJson : List ℕ → Type 0
IsNotJson bytes = IsUtf8 bytes → read bytes ≡ None

-- why there is no request in them, where a value asks this: they are no JSON, or the JSON of no request; memory may run
-- out at any bytes
abbrev pub Lacks : {A : Type 0} → (Data → Option A) → List ℕ → Refusal → Type 0
Lacks asked bytes refusals.NotJson = IsNotJson bytes
Lacks asked bytes refusals.BadForm = OfJson (λ value. asked value ≡ None) bytes
Lacks asked bytes refusals.OutOfMemory = Unit {0}
Lacks asked bytes _ = ⊥

-- why they are refused: there is no request in them, or the one that they hold is refused
abbrev pub RefusesBy : {A R : Type 0} → (Data → Option A) → (List ℕ → R → Type 0) → (R → Refusal → Type 0) → List ℕ →
    Refusal → Type 0
RefusesBy {R = R} asked Holds Refuses bytes refusal =
    Lacks asked bytes refusal ⊎ ((made : R) × Holds bytes made × Refuses made refusal)

-- they are the JSON of a request of `transform`
abbrev pub HoldsRequest : List ℕ → TransformRequest → Type 0
HoldsRequest bytes made =
    OfJson (λ value. (request : Request) × (request_of value ≡ Some request) × IsRequest request made) bytes
