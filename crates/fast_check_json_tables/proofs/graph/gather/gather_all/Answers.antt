use Rattle.std.proofs.Common.{◌∙◌, ap, refl, option_map}
use Rattle.std.proofs.Math.ListN.{drop_of_length-le}
use Rattle.fast_check_json_tables.proofs.graph.Gathering.{gathered_of, gathered_more, gathered_none, next_here, list_there, reads_passed}
use Rattle.fast_check_json_tables.proofs.graph.Given.{given_none, reads_none}
use Rattle.fast_check_json_tables.proofs.graph.gather.gather_all.Goals as goal

pub returns-in_err-read_array : goal.returns-in_err-read_array
returns-in_err-read_array g c =
    reads_none _ _ _ (ap (option_map _) (given_none _ c.in_err-read_array.ensures.err.1)) c.from_residual.ensures.0

pub bounds-item-items-item-index : goal.bounds-item-items-item-index
bounds-item-items-item-index g c = c.loop-item-test.true

pub loop-item-init : goal.loop-item-init
loop-item-init g c = refl

pub returns-in_err-gather : goal.returns-in_err-gather
returns-in_err-gather g c =
    let all = gathered_of g.G.Gather.with g.G.Gather.item_of in
    let there = list_there g.G.Gather.item_of _ _ _ c.in_ok-read_array.ensures.ok c.deref-item-items.ensures.value in
    reads_passed _ _ _ c.in_err-gather.field-0.0 c.from_residual-in_err-gather.ensures.1 (λ bad.
    ap (option_map _) there ∙ (c.loop-item.invariant
    ∙ (next_here (all (g.G.Gather.gathered c.loop-item.gathered)) _ _ _ c.loop-item-test.true c.item-item.is
    ∙ gathered_none g.G.Gather.with g.G.Gather.item_of (g.G.Gather.gathered c.loop-item.gathered) c.item-item.result _
    (c.in_err-gather.ensures bad))))

pub loop-item-preserved : goal.loop-item-preserved
loop-item-preserved g c =
    let all = gathered_of g.G.Gather.with g.G.Gather.item_of in
    c.loop-item.invariant ∙ (next_here (all (g.G.Gather.gathered c.loop-item.gathered)) _ _ _ c.loop-item-test.true c.item-item.is
    ∙ gathered_more g.G.Gather.with g.G.Gather.item_of (g.G.Gather.gathered c.loop-item.gathered)
    (g.G.Gather.gathered c.gather.new.self) c.item-item.result _
    c.in_ok-gather.ensures)

pub returns : goal.returns
returns g c =
    let all = gathered_of g.G.Gather.with g.G.Gather.item_of in
    let there = list_there g.G.Gather.item_of _ _ _ c.in_ok-read_array.ensures.ok c.deref-item-items.ensures.value in
    ap (option_map _) there ∙ (c.loop-item.invariant
    ∙ ap (all (g.G.Gather.gathered c.loop-item.gathered)) (drop_of_length-le c.deref-item-items.result.now c.loop-item-test.false))
