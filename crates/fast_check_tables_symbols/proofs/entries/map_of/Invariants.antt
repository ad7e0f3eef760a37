use Rattle.std.proofs.Common.{◌≡◌}
use Rattle.std.specs.BTreeMap.{get, IsOrdered}
use Rattle.std.specs.Ordering.{eq_by_cmp}
use Rattle.fast_check_tables_symbols.specs.Entries.{last_value}
use Rattle.fast_check_tables_symbols.proofs.entries.map_of.Given as goal

abbrev pub invariant-loop-key : goal.invariant-loop-key
invariant-loop-key g l = record {
  got : (key : g.row.K.Denot) → get g.K.Ord.cmp l.map key ≡ last_value (λ k. eq_by_cmp g.K.Ord.cmp k key) l.yielded;
  ordered : IsOrdered g.K.Ord.cmp l.map;
}
