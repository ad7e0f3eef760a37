use Rattle.fast_check_finder_lattice.specs.Names.{path_of}
use Rattle.fast_check_tables_symbols.proofs.Pushed.{each_all}
use Rattle.fast_check_finder_demands.specs.symbol_demands.Demands.{demand_of}
use Rattle.fast_check_finder_demands.specs.symbol_demands.Passed.{alias_passed}
use Rattle.fast_check_finder_demands.proofs.Aliased.{at, adds_aliases, demands_below, below}
use Rattle.fast_check_finder_demands.proofs.aliases.push_aliases.Goals as goal

pub returns : goal.returns
returns c =
    let t = c.args.tables.now in
    let d = demand_of c.args.demand in
    let path = path_of c.args.names.now in
    let decls = c.args.decls.now.items in
    let places = c.alias_places-place-items.result.now in
    let given = alias_passed t d path c.args.extent in
    adds_aliases given (demands_below t d path c.args.extent) (below t d path c.args.extent) decls places c.alias_places-place-items.ensures
    c.args.out.now c.loop-place.out
    (each_all (at given decls) places c.loop-place.place-index c.args.out.now c.loop-place-test.false c.loop-place.invariant)
