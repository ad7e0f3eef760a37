use Rattle.std.proofs.Common.{List, map}
use Rattle.fast_check_tables_packages.specs.Package.{nv_of}
use Rattle.fast_check_tables_packages.specs.MembersIn.{members_in}
use Rattle.fast_check_tables_cache.specs.CachedPackages.{used_item}
use Rattle.fast_check_finder_ranges.specs.entries.MemberEntries.{AreMemberEntries}
use Rattle.fast_check_finder_demands.specs.asked.Demands.{Demand}
use Rattle.fast_check_finder_demands.specs.facts.GraphFacts.{known, with_used}
use Rattle.fast_check_finder_loop.specs.Finder.{search_of}
use Rattle.fast_check_finder_loop.specs.Lent.{used_of}
use Rattle.fast_check_finder_loop.specs.Measure.{left}
use Rattle.fast_check_finder_loop.specs.Reach.{lent_dependencies, reach}
use Rattle.fast_check_finder_loop.proofs.Loop.{IsOn}
use Rattle.fast_check_finder_loop.proofs.find.find_all.Given as goal

abbrev pub invariant-turns : goal.invariant-turns
invariant-turns g l =
    let m = goal.JsrUrlProvider-dyn g l.lent.provider.now in
    let used = used_of l.lent.cache (λ x. let n = goal.FastCheckCache-dyn g x.now in
    used_item (n.hash_of x.now.1 l.lent.seed.now) (n.stored x.now.1) l.lent.facts.graph.now) in
    let k = with_used used (known l.lent.facts (m.url_of l.lent.provider.now.1) (m.nv_at l.lent.provider.now.1)) in
    record {
      done : List Demand;
      on : IsOn k (map nv_of l.roots) done l.finder;
      members : AreMemberEntries (members_in l.lent.facts.workspace_members.now) l.members;
    }

abbrev pub decreases-turns : goal.decreases-turns
decreases-turns g l =
    let m = goal.JsrUrlProvider-dyn g l.lent.provider.now in
    let used = used_of l.lent.cache (λ x. let n = goal.FastCheckCache-dyn g x.now in
    used_item (n.hash_of x.now.1 l.lent.seed.now) (n.stored x.now.1) l.lent.facts.graph.now) in
    let k = with_used used (known l.lent.facts (m.url_of l.lent.provider.now.1) (m.nv_at l.lent.provider.now.1)) in
    let ds = lent_dependencies l.lent.cache (λ x. (goal.FastCheckCache-dyn g x.now).stored x.now.1) in
    left (reach k ds (map nv_of l.roots)) (search_of l.finder)
