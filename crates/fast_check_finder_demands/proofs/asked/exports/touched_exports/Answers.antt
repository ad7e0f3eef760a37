use Rattle.fast_check_finder_lattice.specs.Names.{path_of, paths_below}
use Rattle.fast_check_finder_demands.proofs.asked.ExportsAsked.{touched_asked}
use Rattle.fast_check_finder_demands.proofs.asked.exports.touched_exports.Goals as goal

pub returns : goal.returns
returns c = touched_asked c.args.first.now (path_of c.args.rest.now) c.in_ok-one_name.field-0
    (paths_below c.in_ok-below.below) c.in_ok-below.ensures
    c.in_ok-one_name.ensures
