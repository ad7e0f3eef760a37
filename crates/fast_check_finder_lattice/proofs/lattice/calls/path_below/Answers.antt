use Rattle.std.proofs.Common.{rules, ◌≡◌, length}
use Rattle.fast_check_finder_lattice.specs.Names.{paths}
use Rattle.fast_check_finder_lattice.proofs.Lines.{subset_whole, all_whole}
use Rattle.fast_check_finder_lattice.proofs.lattice.calls.path_below.Goals as goal

pub returns-then-is_empty : goal.returns-then-is_empty
returns-then-is_empty c = let none : length c.args.parts.now ≡ 0 = search rules in all_whole c.args.parts.now none

pub returns : goal.returns
returns c = let some : length c.args.parts.now ≡ 0 → ⊥ = search rules in subset_whole
    (paths c.in_ok-names.names) c.args.parts.now some c.in_ok-names.ensures
