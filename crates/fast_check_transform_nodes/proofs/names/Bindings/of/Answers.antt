use Rattle.fast_check_transform_nodes.specs.Bindings.{bindings_by, bindings_of}
use Rattle.fast_check_transform_nodes.proofs.names.Bindings.of.Goals as goal

pub returns : goal.returns
unfolding bindings_of
returns c = λ i. bindings_by (c.source.ensures i).unresolved_context (c.tables.ensures i)
