use Rattle.std.proofs.Common.{not}
use Rattle.fast_check_finder_demands.specs.Yields.{ranges_at, is_within}
use Rattle.fast_check_finder_demands.proofs.Filters.{filter_more}
use Rattle.fast_check_finder_demands.proofs.public.push_exports.Goals as goal

pub loop-place-preserved : goal.loop-place-preserved
loop-place-preserved c = record {
  end = c.len-place-end.ensures;
  items = rw (c.in_ok-push_export.ensures, c.at.ensures)
      (filter_more (λ r. not (is_within c.args.hidden r)) (λ e. ranges_at c.args.tables.now e.1) c.args.exports.now c.loop-place.place
      c.args.out.now.items c.loop-place.out.items c.loop-place.invariant.items);
}
