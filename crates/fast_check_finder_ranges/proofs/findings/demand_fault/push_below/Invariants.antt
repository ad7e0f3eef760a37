use Rattle.std.proofs.Common.{◌≡◌, ◌++◌, take, string_bytes}
use Rattle.fast_check_finder_lattice.specs.Names.{path_of}
use Rattle.fast_check_finder_ranges.specs.findings.Faults.{below}
use Rattle.fast_check_finder_ranges.proofs.findings.demand_fault.push_below.Given as goal

abbrev pub invariant-loop-name : goal.invariant-loop-name
invariant-loop-name l = string_bytes l.out ≡ string_bytes l.initial.out ++ below (path_of (take l.name-index l.names))
