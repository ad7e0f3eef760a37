use Rattle.fast_check_finder_lattice.specs.Names.{path_of, paths}
use Rattle.fast_check_finder_demands.proofs.asked.ExportsAsked.{whole_asked}
use Rattle.fast_check_finder_demands.proofs.asked.exports.whole_exports.Goals as goal

pub returns : goal.returns
returns c =
    whole_asked c.args.first.now (path_of c.args.rest.now) c.add_qualified.new.self (paths c.default-names.result) c.default-names.ensures
    (rw c.in_ok-name.ensures.ok at c.in_ok-add_qualified.ensures.joined.join)
