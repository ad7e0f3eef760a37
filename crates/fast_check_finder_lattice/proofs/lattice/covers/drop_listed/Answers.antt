use Rattle.std.proofs.Common.{refl}
use Rattle.fast_check_finder_lattice.proofs.Numbers.{gone_more, gone_all}
use Rattle.fast_check_finder_lattice.proofs.lattice.covers.drop_listed.Goals as goal

pub loop-below-preserved : goal.loop-below-preserved
loop-below-preserved c =
    gone_more c.args.names.now c.loop-below.below-index c.loop-below-item.result c.args.numbers.now.items c.loop-below.numbers.items
    c.drop_below.new.numbers.items c.loop-below-test.true c.loop-below-item.is c.loop-below.invariant c.drop_below.ensures.gone

pub loop-below-init : goal.loop-below-init
loop-below-init c = λ k. refl

pub returns-clause-gone : goal.returns-clause-gone
returns-clause-gone c =
    gone_all c.args.names.now c.loop-below.below-index c.args.numbers.now.items c.loop-below.numbers.items c.loop-below-test.false
    c.loop-below.invariant
