use Rattle.std.proofs.Common.{refl, subst, []}
use Rattle.std.proofs.lemmas.Result.{on_ok_weaker}
use Rattle.fast_check_tables_modules.specs.symbols.Tables.{Tables}
use Rattle.fast_check_finder_demands.specs.symbol_demands.Passed.{own_names}
use Rattle.fast_check_finder_demands.specs.Yields.{Adds}
use Rattle.fast_check_finder_demands.specs.re_exports.Modules.{tables_in}
use Rattle.fast_check_finder_loop.specs.declared.asked.AskedAlias.{AskedAlias}
use Rattle.fast_check_finder_loop.specs.declared.finder.FollowedModule.{FollowedModule}
use Rattle.fast_check_finder_loop.proofs.OwnAsked.{each_kept, each_met, each_covered, known_alias, more_aliases, not_added}
use Rattle.fast_check_finder_loop.proofs.Steps.{same_added, same_itself}
use Rattle.fast_check_finder_loop.proofs.follow.ask_alias.Goals as goal

pub returns-then-not-branch-clause-asks : goal.returns-then-not-branch-clause-asks
returns-then-not-branch-clause-asks c was =
    let m = c.args.followed.now in
    let n : FollowedModule = record m { aliases = c.insert.new.self } in
    let k : AskedAlias = record { symbol = c.args.at.demand.symbol; referrer = c.args.at.demand.referrer } in
    let own = own_names (tables_in m.found.info.now) k.symbol k.referrer in
    let there = known_alias m.aliases k (not_added _ _ c.in_ok-insert.ensures.added c.if-not-branch.true) in
    record {
      asked = own;
      are = same_itself own;
      asks = each_covered c.args.at.place own m.asked c.args.symbols.now.items (was k there);
      aliases = more_aliases m n refl (λ x h. h) was k c.in_ok-insert.ensures.keys (was k there);
    }

pub returns-clause-asks : goal.returns-clause-asks
returns-clause-asks c = on_ok_weaker c.ask_each.result
    (λ asks was.
    let m = c.args.followed.now in
    let n : FollowedModule = record m { asked = c.ask_each.new.asked; aliases = c.insert.new.self } in
    let k : AskedAlias = record { symbol = c.args.at.demand.symbol; referrer = c.args.at.demand.referrer } in
    let place = c.args.at.place in
    let os = c.in_ok-own.own in
    let own = own_names (tables_in m.found.info.now) k.symbol k.referrer in
    let same = same_added own os (subst (λ (t : Tables). Adds (own_names t k.symbol k.referrer) [] os) c.tables_of-tables.ensures c.in_ok-own.ensures) in
    record {
      asked = os;
      are = same;
      asks = asks;
      aliases = more_aliases m n refl (each_kept place os m.asked n.asked c.args.symbols.now.items c.ask_each.new.symbols.items asks) was k
          c.in_ok-insert.ensures.keys
          (λ d h. each_met place os m.asked n.asked c.args.symbols.now.items c.ask_each.new.symbols.items asks d (same.complete d h));
    })
    c.ask_each.ensures
