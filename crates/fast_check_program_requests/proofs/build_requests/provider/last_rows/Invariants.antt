use Rattle.std.proofs.Common.{length}
use Rattle.std.specs.BTreeSet.{contains}
use Rattle.fast_check_tables_packages.specs.Packages.{package_cmp}
use Rattle.fast_check_tables_symbols.proofs.Unreplaced.{IsBetween}
use Rattle.fast_check_program_requests.proofs.build_requests.LastRows.{are_alike}
use Rattle.fast_check_program_requests.proofs.build_requests.provider.last_rows.Given as goal

abbrev pub invariant-loop-row : goal.invariant-loop-row
invariant-loop-row l = IsBetween are_alike l.fn.rows.items l.rows.items l.last.items (λ x. contains package_cmp l.packages x.0)

abbrev pub decreases-loop-row : goal.decreases-loop-row
decreases-loop-row l = length l.rows.items
