use Rattle.std.proofs.Common.{◌≡◌, ◌++◌, not, take, length}
use Rattle.std.specs.List.{filter}
use Rattle.fast_check_finder_demands.specs.Yields.{export_ranges, is_within}
use Rattle.fast_check_finder_demands.proofs.public.push_exports.Given as goal

abbrev pub invariant-loop-place : goal.invariant-loop-place
invariant-loop-place l = record {
  end : l.place-end ≡ length l.exports;
  items : l.out.items ≡ l.initial.out.items ++ filter (λ r. not (is_within l.hidden r)) (export_ranges l.tables (take l.place l.exports));
}
