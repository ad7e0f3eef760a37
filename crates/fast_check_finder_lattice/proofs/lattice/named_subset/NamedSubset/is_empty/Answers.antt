use Rattle.std.proofs.Common.{rules, ◌≡◌, ◌∙◌, ◌<◌, ◌≤◌, sym, arith, length, get_or, []}
use Rattle.std.proofs.lemmas.Bool.{eqb-true}
use Rattle.std.proofs.lemmas.List.{nil_from_length}
use Rattle.fast_check_finder_lattice.proofs.Copies.{past_nothing, root_empty, root_some}
use Rattle.fast_check_finder_lattice.proofs.lattice.named_subset.NamedSubset.is_empty.Goals as goal

pub returns-in-None-clause-none : goal.returns-in-None-clause-none
returns-in-None-clause-none c = λ t.
    let none : length c.args.self.now.nodes.items ≤ 0 = search rules in
    past_nothing c.args.self.now.nodes.items 0 none

pub returns-in-Some-clause-none : goal.returns-in-Some-clause-none
returns-in-Some-clause-none c = λ t.
    let nodes = c.args.self.now.nodes.items in
    let root = c.in-Some.root.now in
    let within : 0 < length nodes = search rules in
    let is : root ≡ get_or nodes 0 root = search rules in
    let zero = eqb-true root.names.len 0 (sym c.is_empty.ensures ∙ t) in
    let none : root.names.items ≡ [] = nil_from_length root.names.items (omega (arith, zero, root.names.ok.0)) in
    root_empty nodes root within is none

pub returns-in-Some-clause-some : goal.returns-in-Some-clause-some
returns-in-Some-clause-some c = λ f.
    let nodes = c.args.self.now.nodes.items in
    let root = c.in-Some.root.now in
    let within : 0 < length nodes = search rules in
    let is : root ≡ get_or nodes 0 root = search rules in
    let some : 0 < length root.names.items = search rules in
    root_some nodes root within is some
