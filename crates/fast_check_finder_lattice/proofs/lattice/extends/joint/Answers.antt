use Rattle.std.proofs.Common.{rules, length, ◌<◌}
use Rattle.fast_check_finder_lattice.specs.Graph.{entry}
use Rattle.fast_check_finder_lattice.proofs.Extends.{joint_here, joint_further}
use Rattle.fast_check_finder_lattice.proofs.lattice.extends.joint.Goals as goal

pub loop-init : goal.loop-init
loop-init c =
    let some : 0 < length c.args.nodes.now = search rules in
    joint_here (entry c.args.nodes.now) (length c.args.nodes.now) 0 (entry c.args.others.now) 0 some

pub loop-preserved : goal.loop-preserved
loop-preserved c = joint_further (entry c.args.nodes.now) (length c.args.nodes.now) 0 (entry c.args.others.now) 0 (c.loop.at, c.loop.other)
    (c.in-Some.no, c.in-Some.next) c.loop.invariant c.in-Some.ensures
