use Rattle.std.proofs.Common.{◌∙◌, ap, Some, string_bytes}
use Rattle.fast_check_finder_lattice.specs.declared.lattice.node.Below.{Below}
use Rattle.fast_check_finder_lattice.specs.Graph.{entry}
use Rattle.fast_check_finder_lattice.specs.Names.{path_of}
use Rattle.fast_check_finder_lattice.proofs.Reaches.{past_name, at_nothing, at_all}
use Rattle.fast_check_finder_lattice.proofs.lattice.reaches.past_name.Goals as goal

pub returns-clause-same : goal.returns-clause-same
returns-clause-same c =
    past_name (entry c.args.nodes.now) c.args.here.now.below c.find_at-below.result c.in-Subset.no
    (string_bytes c.in-Some-split_first.name.now) (path_of c.in-Some-split_first.rest.now) (path_of c.args.here.now.rest.now)
    (c.in-Some.is ∙ ap (λ (b : Below). Some b) c.in-Subset.is)
    (ap path_of c.in-Some-split_first.ensures.cases.0)
    (rw c.as_str.ensures.value at c.find_at-below.ensures)

pub returns-in_default-clause-last : goal.returns-in_default-clause-last
returns-in_default-clause-last c =
    at_nothing (entry c.args.nodes.now) c.args.here.now.below (path_of c.args.here.now.rest.now) c.in_default.is

pub returns-in_default-listed-clause-last : goal.returns-in_default-listed-clause-last
returns-in_default-listed-clause-last c =
    at_all (entry c.args.nodes.now) c.args.here.now.below (path_of c.args.here.now.rest.now)
    (c.in-Some.is ∙ ap (λ (b : Below). Some b) c.in_default-listed.is)
