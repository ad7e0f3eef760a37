use Rattle.std.proofs.Common.{◌∙◌, sym, ap, subst}
use Rattle.fast_check_tables_packages.specs.Package.{nv_of}
use Rattle.fast_check_tables_cache.specs.CachedPackages.{used_item}
use Rattle.fast_check_finder_ranges.specs.entries.Entries.{Entrance, entrance_seen}
use Rattle.fast_check_finder_demands.specs.facts.GraphFacts.{known, with_used}
use Rattle.fast_check_finder_loop.specs.Finder.{Goes}
use Rattle.fast_check_finder_loop.specs.Lent.{used_of}
use Rattle.fast_check_finder_loop.specs.Rules.{entry_followers}
use Rattle.fast_check_finder_loop.specs.Yields.{entry_yields}
use Rattle.fast_check_finder_loop.proofs.Steps.{goes_nowhere}
use Rattle.fast_check_finder_loop.proofs.finder.Finder.enter.Goals as goal

pub returns-in-None-clause-entered : goal.returns-in-None-clause-entered
returns-in-None-clause-entered g c mine =
    let m = goal.JsrUrlProvider-dyn g c.args.lent.provider.now in
    let used = used_of c.args.lent.cache (λ x. let n = goal.FastCheckCache-dyn g x.now in
    used_item (n.hash_of x.now.1 c.args.lent.seed.now) (n.stored x.now.1) c.args.lent.facts.graph.now) in
    let k = with_used used (known c.args.lent.facts (m.url_of c.args.lent.provider.now.1) (m.nv_at c.args.lent.provider.now.1)) in
    let nv = nv_of c.args.nv.now in (
      c.in_ok-entry_points.ensures.kept mine,
      λ sound can. subst (λ (e : Entrance). Goes k.graph k.root_symbol (entry_followers k.graph used nv e) (entry_yields k.graph used nv e)
          c.args.self.now c.args.self.now) (sym (c.in_ok-entry_points.ensures.entered mine ∙ ap entrance_seen c.in-None.is))
          (goes_nowhere k.graph k.root_symbol c.args.self.now sound),
    )

pub returns-in_ok-enter_known-in-Some-clause-entered : goal.returns-in_ok-enter_known-in-Some-clause-entered
returns-in_ok-enter_known-in-Some-clause-entered g c mine =
    let m = goal.JsrUrlProvider-dyn g c.args.lent.provider.now in
    let used = used_of c.args.lent.cache (λ x. let n = goal.FastCheckCache-dyn g x.now in
    used_item (n.hash_of x.now.1 c.args.lent.seed.now) (n.stored x.now.1) c.args.lent.facts.graph.now) in
    let k = with_used used (known c.args.lent.facts (m.url_of c.args.lent.provider.now.1) (m.nv_at c.args.lent.provider.now.1)) in
    let nv = nv_of c.args.nv.now in (
      c.in_ok-entry_points.ensures.kept mine,
      λ sound can. subst (λ (e : Entrance). Goes k.graph k.root_symbol (entry_followers k.graph used nv e) (entry_yields k.graph used nv e)
          c.args.self.now c.enter_known.new.self) (sym (c.in_ok-entry_points.ensures.entered mine ∙ ap entrance_seen c.in-Some.is))
          (c.in_ok-enter_known-in-Some.ensures k.graph k.root_symbol sound can),
    )
