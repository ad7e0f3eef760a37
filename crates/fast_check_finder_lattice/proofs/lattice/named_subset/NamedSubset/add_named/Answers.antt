use Rattle.std.proofs.Common.{refl, string_bytes}
use Rattle.fast_check_finder_lattice.specs.Names.{paths, paths_below, named}
use Rattle.fast_check_finder_lattice.proofs.Adds.{join_both, joined}
use Rattle.fast_check_finder_lattice.proofs.lattice.named_subset.NamedSubset.add_named.Goals as goal

pub returns-clause-joined : goal.returns-clause-joined
returns-clause-joined c =
    let s = paths c.args.self.now in
    let f = named (string_bytes c.args.export) (paths_below c.args.exports) in
    let m = paths c.in_ok-more.more in
    let t = paths c.extend.new.self in
    joined s f t (join_both s m s f t t (λ part p. refl) c.in_ok-more.ensures (λ part p. refl) c.in_ok-extend.ensures.joined.join)
