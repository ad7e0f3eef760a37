use Rattle.fast_check_json.proofs.Tables.{named}
use Rattle.fast_check_json.proofs.law.variants.Goals as goal

pub returns : goal.returns
returns c = named
