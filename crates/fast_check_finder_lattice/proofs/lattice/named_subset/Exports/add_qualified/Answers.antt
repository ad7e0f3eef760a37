use Rattle.std.proofs.Common.{subst, string_bytes, ◌∷◌}
use Rattle.fast_check_finder_lattice.specs.Graph.{subset_of}
use Rattle.fast_check_finder_lattice.specs.Names.{Name, paths, whole, whole_below, path_of, IsJoined, IsJoin, IsSame}
use Rattle.fast_check_finder_lattice.proofs.Puts.{on_ok_from, on_err_from, subset_along}
use Rattle.fast_check_finder_lattice.proofs.Adds.{joined, path_joined}
use Rattle.fast_check_finder_lattice.proofs.lattice.named_subset.Exports.add_qualified.Goals as goal

pub returns-in_ok-from_str-in-Subset-clause-joined :
    goal.returns-in_ok-from_str-in-Subset-clause-joined
returns-in_ok-from_str-in-Subset-clause-joined c =
    let o = paths c.in-Subset.names in
    let j = paths c.add_qualified.new.self in
    let p = path_of c.args.qualified.now in
    rw c.in-Subset.is
    (on_ok_from c.add_qualified.result
    (λ (h : IsJoined o (whole (string_bytes c.in_ok-from_str-in-Subset.field-0) p) j).
    joined (subset_of o) (whole_below (c.args.export_name.now ∷ p)) (subset_of j)
    (path_joined o j c.args.export_name.now p (subst (λ (n : Name). IsJoin o (whole n p) j) c.in_ok-from_str-in-Subset.ensures.ok h.join)))
    c.add_qualified.ensures.joined)

pub returns-in_ok-from_str-in-Subset-clause-err : goal.returns-in_ok-from_str-in-Subset-clause-err
returns-in_ok-from_str-in-Subset-clause-err c =
    let o = paths c.in-Subset.names in
    let j = paths c.add_qualified.new.self in
    rw c.in-Subset.is (on_err_from c.add_qualified.result (λ (e : IsSame j o). subset_along j o e) c.add_qualified.ensures.err)
