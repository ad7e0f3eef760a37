use Rattle.std.proofs.Common.{map, take}
use Rattle.std.specs.List.{flat_map}
use Rattle.fast_check_tables_packages.specs.Package.{nv_of}
use Rattle.fast_check_finder_demands.specs.re_exports.ReExports.{module_demand_of}
use Rattle.fast_check_finder_demands.specs.facts.GraphFacts.{known, traced_as}
use Rattle.fast_check_finder_demands.specs.facts.Followers.{re_export_followers}
use Rattle.fast_check_finder_loop.specs.Finder.{IsSound, Goes}
use Rattle.fast_check_finder_loop.specs.Yields.{dependencies}
use Rattle.fast_check_finder_loop.proofs.finder.Finder.follow_module.Given as goal

abbrev pub invariant-loop-demand : goal.invariant-loop-demand
invariant-loop-demand g l =
    let m = goal.JsrUrlProvider-dyn g l.lent.provider.now in
    let k = known l.lent.facts (m.url_of l.lent.provider.now.1) (m.nv_at l.lent.provider.now.1) in
    let ws = flat_map (re_export_followers k (nv_of l.nv) (traced_as k l.info)) (map module_demand_of (take l.demand-index l.demand-items)) in
    IsSound k.graph k.root_symbol l.initial.self → Goes k.graph k.root_symbol ws (dependencies (nv_of l.nv) ws) l.initial.self l.self
