use Rattle.fast_check_tables_symbols.proofs.Pushed.{each_all}
use Rattle.fast_check_finder_demands.specs.symbol_demands.Passed.{own_parts}
use Rattle.fast_check_finder_demands.proofs.Aliased.{at, adds_aliases, own_below, own_of}
use Rattle.fast_check_finder_demands.proofs.aliases.push_own.Goals as goal

pub returns : goal.returns
returns c =
    let t = c.args.tables.now in
    let r = c.args.demand.referrer in
    let decls = c.args.decls.now.items in
    let places = c.alias_places-place-items.result.now in
    let given = own_parts t r in
    adds_aliases given (own_below t r) (own_of t r) decls places c.alias_places-place-items.ensures c.args.out.now c.loop-place.out
    (each_all (at given decls) places c.loop-place.place-index c.args.out.now c.loop-place-test.false c.loop-place.invariant)
