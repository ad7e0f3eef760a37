use Rattle.std.proofs.Common.{◌∙◌, sym, ap, subst, List}
use Rattle.std.specs.List.{flat_map}
use Rattle.std.proofs.lemmas.List.{map-id}
use Rattle.std.proofs.lemmas.Iterator.Adapters.{YieldsList-from_vec}
use Rattle.std.proofs.lemmas.Iterator.Consumers.{YieldsList-end}
use Rattle.fast_check_finder_ranges.specs.findings.Found.{entry_fault_yields}
use Rattle.fast_check_finder_ranges.specs.findings.Yields.{Yield}
use Rattle.fast_check_finder_ranges.specs.Parts.{Joins}
use Rattle.fast_check_finder_ranges.proofs.Joined.{joins_none, joins_more}
use Rattle.fast_check_finder_ranges.proofs.modules.add_entry_faults.Goals as goal

pub loop-specifier-init : goal.loop-specifier-init
loop-specifier-init c = λ nv. joins_none c.args.modules.now.entries

pub loop-specifier-preserved : goal.loop-specifier-preserved
loop-specifier-preserved c = λ nv.
    joins_more (entry_fault_yields nv) c.loop-specifier.yielded ((c.in-Some.specifier, c.in-Some.fault)) c.args.modules.now.entries c.loop-specifier.modules.entries c.add_entry_fault.new.modules.entries
    (c.loop-specifier.invariant nv) (c.in_ok-add_entry_fault.ensures nv)

pub returns : goal.returns
returns c = λ nv.
    let given = c.into_iter-specifier-iterator.ensures.into_iter_gives in
    let all = YieldsList-end
    (YieldsList-from_vec {s = c.into_iter-specifier-iterator.result} c.args.faults.items given.0 (given.1 ∙ c.args.faults.ok.0))
    c.loop-specifier.yielded c.loop-specifier.specifier-iterator c.loop-specifier.yielded_by c.next.result c.next.new.self c.in-None.is
    c.next.ensures.steps in
    subst (λ (ys : List Yield). Joins ys c.args.modules.now.entries c.loop-specifier.modules.entries)
    (ap (flat_map (entry_fault_yields nv)) (sym (map-id c.loop-specifier.yielded) ∙ all.0)) (c.loop-specifier.invariant nv)
