use Rattle.std.proofs.Common.{sym, refl, arith, ◌-◌, ◌<◌, [], ⊎_elim}
use Rattle.std.proofs.lemmas.Bool.{eqb-true, eqb-false, cases_lt}
use Rattle.std.proofs.lemmas.List.{nil_from_length}
use Rattle.fast_check_finder_lattice.specs.Graph.{entry}
use Rattle.fast_check_finder_lattice.specs.Names.{paths}
use Rattle.fast_check_finder_lattice.proofs.Puts.{nothing_listed}
use Rattle.fast_check_finder_lattice.proofs.Counts.{subsets_are, no_subsets}
use Rattle.fast_check_finder_lattice.proofs.lattice.named_subset.NamedSubset.node_count.Goals as goal

pub returns-then-is_empty : goal.returns-then-is_empty
returns-then-is_empty c =
    let nodes = c.args.self.now.nodes in
    let none = eqb-true nodes.len 0 (sym c.if-is_empty.ensures) in (
      [],
      no_subsets (paths c.args.self.now) (nothing_listed nodes.items (nil_from_length nodes.items (omega (arith, none, nodes.ok.0)))),
      refl,
    )

pub returns-else-is_empty : goal.returns-else-is_empty
returns-else-is_empty c =
    let nodes = c.args.self.now.nodes in
    let some = eqb-false nodes.len 0 (sym c.if-is_empty.ensures) in
    let least : 0 < nodes.len = ⊎_elim (λ h. h) (λ h. absurd (some (omega (arith, h)))) (cases_lt 0 nodes.len) in
    let are = subsets_are (entry nodes.items) nodes.len c.args.self.now.tree (nodes.len - 1) (omega (arith, least)) in
    (are.0, are.1, omega (arith, are.2, c.len.ensures, least))
