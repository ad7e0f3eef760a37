use Rattle.std.proofs.Common.{◌∙◌, ap, [], ◌∷◌, ◌++◌, List, arith}
use Rattle.std.proofs.lemmas.List.Concat.{flat_map_single}
use Rattle.fast_check_tables_symbols.proofs.Pushed.{each_all}
use Rattle.fast_check_finder_demands.specs.symbol_demands.Demands.{Demand}
use Rattle.fast_check_finder_demands.specs.symbol_demands.Rules.{child}
use Rattle.fast_check_finder_demands.proofs.symbol_demands.EachAt.{each_more}
use Rattle.fast_check_finder_demands.proofs.symbol_demands.children.push_exports.Goals as goal

pub loop-place-preserved : goal.loop-place-preserved
loop-place-preserved c = record {
  end = c.len-place-end.ensures;
  items = rw (c.in_ok-push_export.ensures, c.at.ensures)
      (each_more
      (λ e. child e.1 c.args.demand.symbol ∷ []) c.args.exports.now c.loop-place.place c.args.out.now c.loop-place.out
      c.loop-place.invariant.items);
}

pub returns : goal.returns
returns c = each_all (λ e. child e.1 c.args.demand.symbol ∷ []) c.args.exports.now c.loop-place.place c.args.out.now
    (omega (arith, c.loop-place-test.false, c.loop-place.invariant.end)) c.loop-place.invariant.items ∙
    ap (λ (ds : List Demand). c.args.out.now ++ ds) (flat_map_single (λ e. child e.1 c.args.demand.symbol) c.args.exports.now)
