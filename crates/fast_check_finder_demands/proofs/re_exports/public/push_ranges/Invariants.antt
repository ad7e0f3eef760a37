use Rattle.std.proofs.Common.{◌≡◌, ◌++◌, take}
use Rattle.fast_check_finder_demands.specs.re_exports.ReExports.{node_ranges}
use Rattle.fast_check_finder_demands.proofs.re_exports.public.push_ranges.Given as goal

abbrev pub invariant-loop-node : goal.invariant-loop-node
invariant-loop-node l = l.out.items ≡ l.initial.out.items ++ node_ranges (take l.node-index l.nodes)
