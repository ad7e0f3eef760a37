use Rattle.std.proofs.Common.{◌∙◌, sym, ap}
use Rattle.std.specs.Option.{option_or}
use Rattle.fast_check_finder_demands.specs.re_exports.Origins.{origin_at}
use Rattle.fast_check_finder_demands.proofs.re_exports.Firsts.{first_some_turn}
use Rattle.fast_check_finder_demands.proofs.re_exports.origins.index_of.Goals as goal

pub loop-node-preserved : goal.loop-node-preserved
loop-node-preserved c =
    let l = c.loop-node in
    let m = c.args.traced in
    let x = c.node-item.result in
    record {
      says = λ name. c.in_ok-put_behind.ensures.adds name
          ∙ (ap (λ o. option_or o (origin_at m name x)) (l.invariant.says name)
          ∙ sym (first_some_turn (origin_at m name) c.re_export_all_nodes-node-items.result.now l.node-index x c.loop-node-test.true c.node-item.is));
      found = c.in_ok-put_behind.ensures.found;
    }
