use Rattle.std.proofs.Common.{◌∙◌, sym, subst, List, [], ◌∷◌, ◌++◌}
use Rattle.std.specs.declared.alloc.Global.{Global}
use Rattle.std.specs.declared.rc.RcStr.{RcStr}
use Rattle.fast_check_finder_ranges.specs.declared.findings.module_faults.ReportedFault.{ReportedFault}
use Rattle.fast_check_finder_ranges.specs.findings.ModuleFaults.{fault_of, AreFaults}
use Rattle.fast_check_finder_ranges.proofs.findings.Lists.{none_found}
use Rattle.fast_check_finder_ranges.proofs.findings.Collected.{added, stood}
use Rattle.fast_check_finder_ranges.proofs.findings.module_faults.add_fault.Goals as goal

pub returns-then-contains_key : goal.returns-then-contains_key
returns-then-contains_key c = λ fs a.
    stood fs c.args.others.now.entries c.args.fault c.args.text a (sym c.contains_key.ensures ∙ c.if-contains_key.true)

pub returns : goal.returns
returns c = λ fs a.
    subst (λ (es : List (ReportedFault × RcStr Global)). AreFaults (fs ++ fault_of (c.args.fault, c.args.text) ∷ []) es)
    (sym c.in_ok-insert.ensures.entries)
    (added fs c.args.others.now.entries c.args.fault c.args.text a (none_found _ (sym c.contains_key.ensures ∙ c.if-contains_key.false)))
