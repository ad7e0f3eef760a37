use Rattle.std.proofs.Common.{◌∙◌, sym, refl}
use Rattle.fast_check_finder_lattice.specs.Names.{part_of}
use Rattle.fast_check_finder_lattice.proofs.lattice.reaches.reaches.Goals as goal

pub down-init : goal.down-init
down-init c part = refl

pub down-preserved : goal.down-preserved
down-preserved c part = c.in-Some.ensures.same part ∙ c.down.invariant part

pub returns : goal.returns
returns c =
    c.is_end.ensures
    ∙ (sym (c.in_default.ensures.last (part_of c.args.is_whole)) ∙ c.down.invariant (part_of c.args.is_whole))
