use Rattle.std.proofs.Common.{◌≡◌, ◌++◌}
use Rattle.fast_check_finder_ranges.specs.entries.Entries.{all_faults}
use Rattle.fast_check_finder_ranges.proofs.entries.faults.entry_faults.Given as goal

abbrev pub invariant-loop-url : goal.invariant-loop-url
invariant-loop-url l = l.faults.items ++ all_faults l.graph l.url-iterator ≡ all_faults l.graph l.urls.keys
