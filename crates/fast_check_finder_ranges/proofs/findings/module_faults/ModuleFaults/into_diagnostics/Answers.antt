use Rattle.std.proofs.Common.{◌∙◌, ap}
use Rattle.url.specs.Parts.{serialize}
use Rattle.fast_check_finder_ranges.specs.findings.ModuleFaults.{reported_with}
use Rattle.fast_check_finder_ranges.proofs.findings.Diagnosed.{diagnosed}
use Rattle.fast_check_finder_ranges.proofs.findings.module_faults.ModuleFaults.into_diagnostics.Goals as goal

pub returns : goal.returns
returns c = λ fs a.
    diagnosed (serialize c.args.specifier.now) fs c.args.self.is_untyped c.args.self.others.entries c.push_untyped.new.out.items a.untyped a.reported
    c.in_ok-out.ensures.once c.in_ok-out.ensures.by_place
    (c.in_ok-push_untyped.ensures ∙ ap (reported_with c.args.self.is_untyped) c.in_ok-out.ensures.reported)
