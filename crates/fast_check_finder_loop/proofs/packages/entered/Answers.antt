use Rattle.std.proofs.Common.{◌∙◌}
use Rattle.std.proofs.lemmas.Iterator.Adapters.{YieldsList-from_vec}
use Rattle.std.proofs.lemmas.Iterator.Consumers.{YieldsList-so_far, YieldsList-turn}
use Rattle.fast_check_finder_loop.specs.Finder.{entered_nv}
use Rattle.fast_check_finder_loop.specs.Packages.{Entered}
use Rattle.fast_check_finder_loop.proofs.Collected.{entered_none, not_before}
use Rattle.fast_check_finder_loop.proofs.packages.entered.Goals as goal

pub loop-nv-init : goal.loop-nv-init
loop-nv-init c = λ apart. entered_none c.new-found.result.entries c.new-found.ensures.empty

pub loop-nv-preserved : goal.loop-nv-preserved
loop-nv-preserved c = λ apart.
    let given = c.into_iter-nv-iterator.ensures.into_iter_gives in
    let items = YieldsList-from_vec {s = c.into_iter-nv-iterator.result} c.args.entrances.items given.0 (given.1 ∙ c.args.entrances.ok.0) in
    let x : Entered = (c.in-Some.nv, c.in-Some.entrance) in
    c.in_ok-add_entrance.ensures c.loop-nv.yielded
    (not_before entered_nv c.args.entrances.items c.loop-nv.yielded x
    (YieldsList-so_far items c.loop-nv.yielded c.loop-nv.nv-iterator c.loop-nv.yielded_by)
    (YieldsList-turn items c.loop-nv.yielded c.loop-nv.nv-iterator c.loop-nv.yielded_by c.next.result c.next.new.self x c.in-Some.is
    c.next.ensures.steps)
    apart)
    (c.loop-nv.invariant apart)
