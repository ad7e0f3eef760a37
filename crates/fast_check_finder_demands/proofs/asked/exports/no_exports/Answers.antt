use Rattle.fast_check_finder_demands.proofs.asked.ExportsAsked.{nothing_asked}
use Rattle.fast_check_finder_demands.proofs.asked.exports.no_exports.Goals as goal

pub returns : goal.returns
returns c = nothing_asked c.default.result c.default.ensures
