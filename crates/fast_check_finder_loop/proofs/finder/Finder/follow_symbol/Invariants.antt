use Rattle.std.proofs.Common.{map, take}
use Rattle.std.specs.List.{flat_map}
use Rattle.fast_check_tables_packages.specs.Package.{nv_of}
use Rattle.fast_check_finder_demands.specs.name_demands.Files.{file_demand_of}
use Rattle.fast_check_finder_demands.specs.facts.GraphFacts.{known, traced_as}
use Rattle.fast_check_finder_demands.specs.facts.Followers.{file_followers}
use Rattle.fast_check_finder_loop.specs.Finder.{IsSound, Goes}
use Rattle.fast_check_finder_loop.specs.Yields.{dependencies}
use Rattle.fast_check_finder_loop.proofs.finder.Finder.follow_symbol.Given as goal

abbrev pub invariant-loop-dependency : goal.invariant-loop-dependency
invariant-loop-dependency g l =
    let m = goal.JsrUrlProvider-dyn g l.lent.provider.now in
    let k = known l.lent.facts (m.url_of l.lent.provider.now.1) (m.nv_at l.lent.provider.now.1) in
    let ws = flat_map (file_followers k (nv_of l.nv) (traced_as k l.info)) (map file_demand_of (take l.dependency-index l.dependency-items)) in
    IsSound k.graph k.root_symbol l.initial.self → Goes k.graph k.root_symbol ws (dependencies (nv_of l.nv) ws) l.initial.self l.self
