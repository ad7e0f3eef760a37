use Rattle.std.proofs.Common.{◌≡◌, drop}
use Rattle.fast_check_json_tables.proofs.graph.Gathering.{gathered_of}
use Rattle.fast_check_json_tables.proofs.graph.gather.gather_all.Given as goal

-- taking the other items with those so far gathers all items
abbrev pub invariant-loop-item : goal.invariant-loop-item
invariant-loop-item g l =
    let all = gathered_of g.G.Gather.with g.G.Gather.item_of in
    all (g.G.Gather.gathered l.initial.gathered) l.item-items ≡ all (g.G.Gather.gathered l.gathered) (drop l.item-index l.item-items)
