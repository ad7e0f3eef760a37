use Rattle.std.proofs.Common.{◌-◌, ◌≡◌, ◌<◌, ◌≤◌, [], get_or, length}
use Rattle.std.specs.Cmp.Lexicographic.{slice_cmp}
use Rattle.std.specs.Ordering.{nat_cmp}
use Rattle.std.specs.declared.cmp.Ordering.TheVariants.{Less, Greater}
use Rattle.fast_check_finder_lattice.specs.Order.{names_in, keys}
use Rattle.fast_check_finder_lattice.proofs.lattice.order.search.Given as goal

abbrev pub invariant-search : goal.invariant-search
invariant-search l =
    (l.low ≤ l.high) × (l.high ≤ length l.sorted) ×
    (0 < l.low → slice_cmp nat_cmp (get_or (keys (names_in l.names) l.sorted) (l.low - 1) []) l.name ≡ Less) ×
    (l.high < length l.sorted →
    slice_cmp nat_cmp (get_or (keys (names_in l.names) l.sorted) l.high []) l.name ≡ Greater)

abbrev pub decreases-search : goal.decreases-search
decreases-search l = l.high - l.low
