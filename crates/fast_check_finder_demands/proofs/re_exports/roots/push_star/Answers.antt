use Rattle.fast_check_finder_demands.specs.re_exports.Roots.{star_export}
use Rattle.fast_check_finder_demands.proofs.symbol_demands.EachAt.{each_more}
use Rattle.fast_check_finder_demands.proofs.re_exports.roots.push_star.Goals as goal

pub loop-place-preserved : goal.loop-place-preserved
loop-place-preserved c = record {
  end = c.len-place-end.ensures;
  items = rw (c.in_ok-push_star_export.ensures, c.at.ensures)
      (each_more (star_export c.args.tables.now c.args.with_default) c.in-Some.symbol.now.exports c.loop-place.place c.args.out.now c.loop-place.out
      c.loop-place.invariant.items);
}
