use Rattle.std.proofs.Common.{◌≡◌, ◌++◌, take, length}
use Rattle.std.specs.List.{flat_map}
use Rattle.fast_check_finder_demands.specs.re_exports.Roots.{star_export}
use Rattle.fast_check_finder_demands.proofs.re_exports.roots.push_star.Given as goal

abbrev pub invariant-loop-place : goal.invariant-loop-place
invariant-loop-place l = record {
  end : l.place-end ≡ length l.symbol.exports;
  items : l.out ≡ l.initial.out ++ flat_map (star_export l.tables l.with_default) (take l.place l.symbol.exports);
}
