use Rattle.std.proofs.Common.{drop}
use Rattle.fast_check_finder_lattice.specs.Names.{path_of, paths_below, IsSame}
use Rattle.fast_check_finder_demands.specs.asked.Exports.{touched_below}
use Rattle.fast_check_finder_demands.proofs.asked.exports.exports_below.Given as goal

abbrev pub invariant-loop-place : goal.invariant-loop-place
invariant-loop-place l = IsSame (paths_below l.below) (touched_below (path_of (drop l.place l.parts)))
