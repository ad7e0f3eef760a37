use Rattle.std.specs.Prelude.{refl}
use Rattle.fast_check_json.proofs.law.words.Goals as goal

pub returns : goal.returns
returns c = record { variables = refl; methods = refl; accessibility = refl; keywords = refl; operators = refl }
