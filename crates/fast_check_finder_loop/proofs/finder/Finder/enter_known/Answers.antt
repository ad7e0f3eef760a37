use Rattle.std.proofs.Common.{◌≡◌, ◌∙◌, sym, ap, subst, Option, option_map, rules}
use Rattle.std.specs.Result.{OnOk}
use Rattle.std.specs.BTreeSet.{BTreeSet}
use Rattle.url.specs.Parts.{Parts}
use Rattle.fast_check_tables_packages.specs.Package.{nv_of}
use Rattle.fast_check_tables_cache.specs.Cache.{ItemView, item_of}
use Rattle.fast_check_tables_cache.specs.CachedPackages.{used_item}
use Rattle.fast_check_tables_graph.specs.declared.graph.ModuleGraph.{ModuleGraph}
use Rattle.fast_check_tables_graph.specs.declared.root_symbol.RootSymbol.{RootSymbol}
use Rattle.fast_check_finder_loop.specs.Finder.{IsSound, CanEnter, Goes}
use Rattle.fast_check_finder_loop.specs.Lent.{used_of}
use Rattle.fast_check_finder_loop.specs.Rules.{entered_followers}
use Rattle.fast_check_finder_loop.specs.Yields.{entered_yields}
use Rattle.fast_check_finder_loop.proofs.Entered.{looked_up}
use Rattle.fast_check_finder_loop.proofs.finder.Finder.enter_known.Goals as goal

pub returns-in-None : goal.returns-in-None
returns-in-None g c =
    let nv = nv_of c.args.nv.now in
    let graph = c.args.lent.facts.graph.now in
    let keys : c.deref.result.now ≡ c.args.entry_points.value = search rules in
    let used = used_of c.args.lent.cache (λ x. let n = goal.FastCheckCache-dyn g x.now in
    used_item (n.hash_of x.now.1 c.args.lent.seed.now) (n.stored x.now.1) c.args.lent.facts.graph.now) in
    let urls = c.args.entry_points.value.keys in
    let is = ap (option_map item_of) (sym c.in-None.is) ∙ (looked_up c.args.lent.cache (λ x. let n = goal.FastCheckCache-dyn g x.now in
    used_item (n.hash_of x.now.1 c.args.lent.seed.now) (n.stored x.now.1) graph) nv c.deref.result.now.keys (option_map item_of c.in_ok-look_up.field-0)
    c.in_ok-look_up.ensures ∙ ap (λ (s : BTreeSet Parts). used nv s.keys) keys) in
    subst (λ (item : Option ItemView). OnOk c.enter_at.result ((h : ModuleGraph) (r : RootSymbol) → IsSound h r c.args.self.now →
    CanEnter nv c.args.self.now → Goes h r (entered_followers graph nv urls item) (entered_yields graph nv urls item) c.args.self.now c.enter_at.new.self))
    is c.enter_at.ensures

pub returns-in-Some : goal.returns-in-Some
returns-in-Some g c =
    let nv = nv_of c.args.nv.now in
    let graph = c.args.lent.facts.graph.now in
    let keys : c.deref.result.now ≡ c.args.entry_points.value = search rules in
    let used = used_of c.args.lent.cache (λ x. let n = goal.FastCheckCache-dyn g x.now in
    used_item (n.hash_of x.now.1 c.args.lent.seed.now) (n.stored x.now.1) c.args.lent.facts.graph.now) in
    let urls = c.args.entry_points.value.keys in
    let is = ap (option_map item_of) (sym c.in-Some.is) ∙ (looked_up c.args.lent.cache (λ x. let n = goal.FastCheckCache-dyn g x.now in
    used_item (n.hash_of x.now.1 c.args.lent.seed.now) (n.stored x.now.1) graph) nv c.deref.result.now.keys (option_map item_of c.in_ok-look_up.field-0)
    c.in_ok-look_up.ensures ∙ ap (λ (s : BTreeSet Parts). used nv s.keys) keys) in
    subst (λ (item : Option ItemView). OnOk c.enter_cached.result ((h : ModuleGraph) (r : RootSymbol) → IsSound h r c.args.self.now →
    CanEnter nv c.args.self.now → Goes h r (entered_followers graph nv urls item) (entered_yields graph nv urls item) c.args.self.now c.enter_cached.new.self))
    is c.enter_cached.ensures
