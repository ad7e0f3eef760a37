use Rattle.std.proofs.Common.{arith, sym, refl, ◌<◌, ◌+◌, ◌-◌, ◌/◌, get_or, length}
use Rattle.fast_check_finder_lattice.proofs.Sorted.{equal_at, place_within, gap_at}
use Rattle.fast_check_finder_lattice.proofs.lattice.order.search.Goals as goal

pub returns-in-Equal : goal.returns-in-Equal
returns-in-Equal c =
    let es = c.args.names.now in
    let ks = c.args.sorted.now in
    let middle = c.search.low + (c.search.high - c.search.low) / 2 in
    let there : middle < length ks = omega (arith, c.search.invariant.0, c.search.invariant.1, c.search-test.true) in (
      place_within es ks c.requires middle (get_or ks middle 0) there refl,
      equal_at es ks c.args.name.now middle (get_or ks middle 0) there refl (sym c.in-Equal.ensures),
    )

pub returns : goal.returns
returns c =
    gap_at c.args.names.now c.args.sorted.now c.args.name.now c.search.low c.search.high c.requires c.search.invariant.0 c.search-test.false
    c.search.invariant.1 c.search.invariant.2 c.search.invariant.3
