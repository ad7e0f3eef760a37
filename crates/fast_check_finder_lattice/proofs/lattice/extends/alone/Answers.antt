use Rattle.std.proofs.Common.{sym, ◌∙◌}
use Rattle.fast_check_finder_lattice.proofs.Extends.{one_only}
use Rattle.fast_check_finder_lattice.proofs.lattice.extends.alone.Goals as goal

pub returns : goal.returns
returns c = sym c.names_of-names.ensures.names ∙
    one_only c.names_of-names.result.now c.index-names-0.result c.if-names-ne1.false c.index-names-0.is
