use Rattle.std.proofs.Common.{◌∙◌, sym, ap, subst, List}
use Rattle.std.specs.List.{flat_map}
use Rattle.std.proofs.lemmas.List.{map-id}
use Rattle.std.proofs.lemmas.Iterator.Adapters.{YieldsList-from_vec}
use Rattle.std.proofs.lemmas.Iterator.Consumers.{YieldsList-end}
use Rattle.fast_check_finder_ranges.specs.findings.Found.{module_yields}
use Rattle.fast_check_finder_ranges.specs.findings.Yields.{Yield}
use Rattle.fast_check_finder_ranges.specs.Parts.{Joins}
use Rattle.fast_check_finder_ranges.proofs.Joined.{joins_none, joins_more}
use Rattle.fast_check_finder_ranges.proofs.modules.add_all_followed.Goals as goal

pub loop-found-init : goal.loop-found-init
loop-found-init c = λ nv. joins_none c.args.modules.now.entries

pub loop-found-preserved : goal.loop-found-preserved
loop-found-preserved c = λ nv.
    joins_more (module_yields nv) c.loop-found.yielded (c.in-Some.found) c.args.modules.now.entries c.loop-found.modules.entries c.add_followed.new.modules.entries
    (c.loop-found.invariant nv) (c.in_ok-add_followed.ensures nv)

pub returns : goal.returns
returns c = λ nv.
    let given = c.into_iter-found-iterator.ensures.into_iter_gives in
    let all = YieldsList-end
    (YieldsList-from_vec {s = c.into_iter-found-iterator.result} c.args.followed.items given.0 (given.1 ∙ c.args.followed.ok.0))
    c.loop-found.yielded c.loop-found.found-iterator c.loop-found.yielded_by c.next.result c.next.new.self c.in-None.is
    c.next.ensures.steps in
    subst (λ (ys : List Yield). Joins ys c.args.modules.now.entries c.loop-found.modules.entries)
    (ap (flat_map (module_yields nv)) (sym (map-id c.loop-found.yielded) ∙ all.0)) (c.loop-found.invariant nv)
