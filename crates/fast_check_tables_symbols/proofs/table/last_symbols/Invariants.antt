use Rattle.std.proofs.Common.{length}
use Rattle.std.specs.BTreeSet.{contains}
use Rattle.std.specs.Ordering.{nat_cmp}
use Rattle.fast_check_tables_symbols.specs.Symbols.{has_id}
use Rattle.fast_check_tables_symbols.proofs.Unreplaced.{IsBetween}
use Rattle.fast_check_tables_symbols.proofs.table.last_symbols.Given as goal

abbrev pub invariant-loop-symbol : goal.invariant-loop-symbol
invariant-loop-symbol l =
    IsBetween (λ s. has_id s.id) l.fn.symbols.items l.symbols.items l.last.items (λ s. contains nat_cmp l.ids s.id.0)

abbrev pub decreases-loop-symbol : goal.decreases-loop-symbol
decreases-loop-symbol l = length l.symbols.items
