use Rattle.fast_check_json.proofs.InPlace.{in_place}
use Rattle.fast_check_json.proofs.law.places.Goals as goal

pub returns : goal.returns
returns c = in_place
