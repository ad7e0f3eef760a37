use Rattle.fast_check_tables_symbols.specs.declared.tables.ReExportAllNode.{ReExportAllNode}
use Rattle.fast_check_tables_symbols.proofs.Pushed.{one_more, all}
use Rattle.fast_check_tables_modules.proofs.ranges.push_re_exports.Goals as goal

pub loop-node-preserved : goal.loop-node-preserved
loop-node-preserved c =
    one_more (λ (n : ReExportAllNode).
    n.range) c.args.nodes.now c.loop-node.node-index c.node-item.result c.args.out.now.items c.loop-node-test.true
    c.node-item.is
    c.loop-node.invariant c.in_ok-push.ensures.items

pub returns : goal.returns
returns c =
    all (λ (n : ReExportAllNode).
    n.range) c.args.nodes.now c.loop-node.node-index c.args.out.now.items c.loop-node-test.false c.loop-node.invariant
