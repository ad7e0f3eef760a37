use Rattle.std.proofs.Common.{◌≡◌, ◌∙◌, sym, ap, ◌∷◌, [], ◌++◌, map, Some, rules}
use Rattle.std.specs.Map.{keys_of}
use Rattle.std.proofs.lemmas.List.{map-id, map-append}
use Rattle.std.proofs.lemmas.Map.Iter.{iter_end}
use Rattle.std.proofs.lemmas.Map.Keys.{IsDistinct-from_sorted}
use Rattle.url.specs.Parts.{serialize}
use Rattle.fast_check_finder_ranges.specs.contracts.findings.module_faults.ReportedFaultOrd.TheImpl as order
use Rattle.fast_check_finder_ranges.specs.findings.Diagnostics.{fault_reported}
use Rattle.fast_check_finder_ranges.specs.findings.ModuleFaults.{fault_of}
use Rattle.fast_check_finder_ranges.proofs.findings.Reports.{told_once, told_by_place}
use Rattle.fast_check_finder_ranges.proofs.findings.module_faults.diagnostics_of.Goals as goal

pub loop-fault-preserved : goal.loop-fault-preserved
loop-fault-preserved c =
    ap (map (fault_reported (serialize c.args.specifier.now))) c.in_ok-push.ensures.items
    ∙ (map-append (fault_reported (serialize c.args.specifier.now)) c.loop-fault.out.items (c.in_ok-diagnostic_of.field-0 ∷ [])
    ∙ (ap (λ xs. xs ++ fault_reported (serialize c.args.specifier.now) c.in_ok-diagnostic_of.field-0 ∷ []) c.loop-fault.invariant
    ∙ (ap (λ o. map (λ e. Some (fault_of e)) c.loop-fault.yielded ++ o ∷ []) c.in_ok-diagnostic_of.ensures
    ∙ sym (map-append (λ e. Some (fault_of e)) c.loop-fault.yielded ((c.in-Some.fault, c.in-Some.text) ∷ [])))))

pub returns-clause-reported : goal.returns-clause-reported
returns-clause-reported c =
    let all : map (λ p. p) c.loop-fault.yielded ≡ c.args.others.entries = search (rules, iter_end) in
    c.loop-fault.invariant ∙ ap (map (λ e. Some (fault_of e))) (sym (map-id c.loop-fault.yielded) ∙ all)

pub returns-clause-once : goal.returns-clause-once
returns-clause-once c = told_once c.args.others.entries
    (IsDistinct-from_sorted order.cmp-value.it (keys_of c.args.others.entries) c.into_iter-fault-iterator.ensures.into_iter_gives.5)

pub returns-clause-by_place : goal.returns-clause-by_place
returns-clause-by_place c = told_by_place c.args.others.entries c.into_iter-fault-iterator.ensures.into_iter_gives.5
