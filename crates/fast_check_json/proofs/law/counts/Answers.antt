use Rattle.fast_check_json.proofs.Tables.{counted}
use Rattle.fast_check_json.proofs.law.counts.Goals as goal

pub returns : goal.returns
returns c = counted
