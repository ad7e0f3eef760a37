use Rattle.std.proofs.Common.{◌≡◌, ◌++◌, take}
use Rattle.fast_check_finder_demands.specs.re_exports.ReExports.{all_re_exported}
use Rattle.fast_check_finder_demands.proofs.re_exports.public.push_all_re_exported.Given as goal

abbrev pub invariant-loop-node : goal.invariant-loop-node
invariant-loop-node l = l.out ≡ l.initial.out ++ all_re_exported (take l.node-index l.nodes)
