use Rattle.std.proofs.Common.{◌∙◌, sym, ap, subst, List}
use Rattle.std.specs.List.{list_any, flat_map}
use Rattle.url.specs.Parts.{serialize}
use Rattle.fast_check_tables_diagnostics.specs.PublicRanges.{same_range}
use Rattle.fast_check_tables_diagnostics.specs.declared.diagnostics.FastCheckDiagnostic.{FastCheckDiagnostic}
use Rattle.fast_check_finder_ranges.specs.findings.Diagnostics.{AreDiagnosed}
use Rattle.fast_check_finder_ranges.specs.Answers.{faults_of}
use Rattle.fast_check_finder_ranges.proofs.modules.module_ranges.Goals as goal

pub returns : goal.returns
returns c = λ ys a. record {
  ranges = λ r. c.in_ok-made.ensures.public r ∙ ap (list_any (same_range r)) a.ranges;
  implementations = λ r. c.in_ok-made.ensures.implementations r ∙ ap (list_any (same_range r)) a.implementations;
  diagnosed = subst (λ (ds : List FastCheckDiagnostic). AreDiagnosed (serialize c.args.specifier.now) (flat_map faults_of ys) ds)
      (sym c.in_ok-made.ensures.diagnostics) (c.in_ok-diagnostics.ensures (flat_map faults_of ys) a.faults);
}
