use Rattle.std.proofs.Common.{◌≡◌, ◌++◌, take, map}
use Rattle.fast_check_tables_modules.proofs.ranges.push_re_exports.Given as goal

abbrev pub invariant-loop-node : goal.invariant-loop-node
invariant-loop-node l = l.out.items ≡ l.initial.out.items ++ map (λ n. n.range) (take l.node-index l.nodes)
