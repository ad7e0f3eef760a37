use Rattle.fast_check_finder_lattice.specs.Names.{paths}
use Rattle.fast_check_finder_lattice.proofs.Shapes.{own_set}
use Rattle.fast_check_finder_lattice.proofs.Adds.{joined}
use Rattle.fast_check_finder_lattice.proofs.Extends.{joined_by_rest, joined_with_nothing}
use Rattle.fast_check_finder_lattice.proofs.lattice.named_subset.NamedSubset.extend.Goals as goal

pub returns-then-is_empty-clause-joined : goal.returns-then-is_empty-clause-joined
returns-then-is_empty-clause-joined c =
    let old = paths c.args.self.now in
    let new = paths c.args.new_subset in
    let rest = c.in_ok-difference.difference in
    let is = rw c.as_slice-old.ensures.value at c.in_ok-difference.ensures in
    joined old new old (joined_by_rest old new (paths rest) old (own_set c.args.new_subset) (own_set rest) is.least
    (joined_with_nothing old (paths rest) (c.is_empty.ensures.none c.if-is_empty.true)))

pub returns-clause-joined : goal.returns-clause-joined
returns-clause-joined c =
    let old = paths c.args.self.now in
    let new = paths c.args.new_subset in
    let rest = c.in_ok-difference.difference in
    let is = rw c.as_slice-old.ensures.value at c.in_ok-difference.ensures in
    joined old new (paths c.join.new.self)
    (joined_by_rest old new (paths rest) (paths c.join.new.self) (own_set c.args.new_subset) (own_set rest) is.least
    c.in_ok-join.ensures.joined)

pub returns-then-is_empty-clause-difference : goal.returns-then-is_empty-clause-difference
returns-then-is_empty-clause-difference c = rw c.as_slice-old.ensures.value at c.in_ok-difference.ensures

pub returns-clause-difference : goal.returns-clause-difference
returns-clause-difference c = rw c.as_slice-old.ensures.value at c.in_ok-difference.ensures
