use Rattle.std.proofs.Common.{refl, subst}
use Rattle.fast_check_finder_lattice.specs.declared.lattice.named_subset.NamedSubset.{NamedSubset}
use Rattle.fast_check_finder_lattice.specs.Names.{paths, paths_below, everything, IsJoined, IsDifference}
use Rattle.fast_check_finder_lattice.proofs.Adds.{joined, join_below_subsets}
use Rattle.fast_check_finder_lattice.proofs.Rest.{of_rest, of_rest_some, rest_all_before, rest_whole, rest_none, rest_some}
use Rattle.fast_check_finder_lattice.proofs.lattice.named_subset.Exports.extend.Goals as goal

pub returns-in-All-clause-joined : goal.returns-in-All-clause-joined
returns-in-All-clause-joined c = rw c.in-All.is (joined everything (paths_below c.args.new_named) everything (λ part q. refl))

pub returns-in-All-clause-difference : goal.returns-in-All-clause-difference
returns-in-All-clause-difference c = rw c.in-All.is (of_rest _ _ (rest_all_before (paths_below c.args.new_named)))

pub returns-in-All-new_named-clause-difference : goal.returns-in-All-new_named-clause-difference
returns-in-All-new_named-clause-difference c = rw (c.in-Subset.is, c.in-All-new_named.is)
    (of_rest_some _ _ _ refl (rest_whole (paths c.in-Subset.names)))

pub returns-then-is_empty-clause-joined : goal.returns-then-is_empty-clause-joined
returns-then-is_empty-clause-joined c =
    let new = c.in-Subset-new_named.new_subset in
    let both =
    subst (λ (o : NamedSubset). IsJoined (paths o) (paths new)
    (paths c.extend.new.self)) c.in-Subset.names-is c.in_ok-rest-in-Subset-new_named.ensures.joined in
    rw (c.in-Subset.is, c.in-Subset-new_named.is)
    (joined _ _ _ (join_below_subsets (paths c.in-Subset.names) (paths new) (paths c.extend.new.self) both.join))

pub returns-else-is_empty-clause-joined : goal.returns-else-is_empty-clause-joined
returns-else-is_empty-clause-joined c =
    let new = c.in-Subset-new_named.new_subset in
    let both =
    subst (λ (o : NamedSubset). IsJoined (paths o) (paths new)
    (paths c.extend.new.self)) c.in-Subset.names-is c.in_ok-rest-in-Subset-new_named.ensures.joined in
    rw (c.in-Subset.is, c.in-Subset-new_named.is)
    (joined _ _ _ (join_below_subsets (paths c.in-Subset.names) (paths new) (paths c.extend.new.self) both.join))

pub returns-then-is_empty-clause-difference : goal.returns-then-is_empty-clause-difference
returns-then-is_empty-clause-difference c =
    let new = c.in-Subset-new_named.new_subset in
    let rest = c.in_ok-rest-in-Subset-new_named.rest in
    let is = subst
    (λ (o : NamedSubset). IsDifference (paths o) (paths new)
    (paths rest)) c.in-Subset.names-is c.in_ok-rest-in-Subset-new_named.ensures.difference in
    rw (c.in-Subset.is, c.in-Subset-new_named.is)
    (of_rest _ _
    (rest_none (paths c.in-Subset.names) (paths new) (paths rest) refl (λ part. refl) (λ part. refl) is
    (c.is_empty.ensures.none c.if-is_empty.true)))

pub returns-else-is_empty-clause-difference : goal.returns-else-is_empty-clause-difference
returns-else-is_empty-clause-difference c =
    let new = c.in-Subset-new_named.new_subset in
    let rest = c.in_ok-rest-in-Subset-new_named.rest in
    let is = subst
    (λ (o : NamedSubset). IsDifference (paths o) (paths new)
    (paths rest)) c.in-Subset.names-is c.in_ok-rest-in-Subset-new_named.ensures.difference in
    let some = c.is_empty.ensures.some c.if-is_empty.false in
    rw (c.in-Subset.is, c.in-Subset-new_named.is)
    (of_rest_some _ _ _ refl
    (rest_some (paths c.in-Subset.names) (paths new) (paths rest) refl (λ part. refl) (λ part. refl) is some.0 some.1))
