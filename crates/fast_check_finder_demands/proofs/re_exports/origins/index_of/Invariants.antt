use Rattle.std.proofs.Common.{◌≡◌, take}
use Rattle.fast_check_finder_lattice.specs.Names.{Name}
use Rattle.fast_check_finder_demands.specs.re_exports.Origins.{indexed, first_origin, AreFound}
use Rattle.fast_check_finder_demands.proofs.re_exports.origins.index_of.Given as goal

abbrev pub invariant-loop-node : goal.invariant-loop-node
invariant-loop-node l = record {
  says : (name : Name) → indexed name l.names ≡ first_origin l.traced name (take l.node-index l.node-items);
  found : AreFound l.traced l.met l.names;
}
