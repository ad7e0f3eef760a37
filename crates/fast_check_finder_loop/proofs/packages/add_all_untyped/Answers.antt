use Rattle.std.proofs.Common.{◌∙◌, sym, ap, subst, List}
use Rattle.std.specs.List.{flat_map}
use Rattle.std.proofs.lemmas.List.{map-id}
use Rattle.std.proofs.lemmas.Iterator.Adapters.{YieldsList-from_vec}
use Rattle.std.proofs.lemmas.Iterator.Consumers.{YieldsList-end}
use Rattle.fast_check_finder_ranges.specs.findings.Yields.{Yield}
use Rattle.fast_check_finder_loop.specs.Finder.{untyped_yields_of}
use Rattle.fast_check_finder_loop.specs.Packages.{Adds}
use Rattle.fast_check_finder_loop.proofs.Collected.{adds_none, adds_more}
use Rattle.fast_check_finder_loop.proofs.packages.add_all_untyped.Goals as goal

pub loop-nv-init : goal.loop-nv-init
loop-nv-init c = adds_none c.args.found.now.entries

pub loop-nv-preserved : goal.loop-nv-preserved
loop-nv-preserved c = adds_more untyped_yields_of c.loop-nv.yielded (c.in-Some.nv, c.in-Some.url) c.args.found.now.entries c.loop-nv.found.entries
    c.add_untyped.new.found.entries c.loop-nv.invariant c.in_ok-add_untyped.ensures

pub returns : goal.returns
returns c =
    let given = c.into_iter-nv-iterator.ensures.into_iter_gives in
    let all = YieldsList-end
    (YieldsList-from_vec {s = c.into_iter-nv-iterator.result} c.args.untyped.items given.0 (given.1 ∙ c.args.untyped.ok.0))
    c.loop-nv.yielded c.loop-nv.nv-iterator c.loop-nv.yielded_by c.next.result c.next.new.self c.in-None.is
    c.next.ensures.steps in
    subst (λ (ys : List Yield). Adds ys c.args.found.now.entries c.loop-nv.found.entries)
    (ap (flat_map untyped_yields_of) (sym (map-id c.loop-nv.yielded) ∙ all.0)) c.loop-nv.invariant
