use Rattle.std.proofs.Common.{◌∙◌, sym, ap, subst, Option, Some}
use Rattle.fast_check_finder_ranges.specs.findings.Found.{entrance_yields}
use Rattle.fast_check_finder_ranges.specs.declared.findings.found.Entrance.{Entrance}
use Rattle.fast_check_finder_ranges.specs.Parts.{Joins}
use Rattle.fast_check_finder_ranges.proofs.Joined.{joins_entered}
use Rattle.fast_check_finder_ranges.proofs.packages.entered_answer.Goals as goal

pub returns-in_ok-answer-in-Some-Entered-clause-modules :
    goal.returns-in_ok-answer-in-Some-Entered-clause-modules
returns-in_ok-answer-in-Some-Entered-clause-modules c = λ nv.
    subst (λ (e : Option Entrance). Joins (entrance_yields nv e) c.args.modules.now.entries c.add_entry_faults.new.modules.entries)
    (sym (c.in-Some-Entered.is ∙ ap (λ (x : Entrance). Some x) c.in-Some-Entered.field-0-is))
    (joins_entered nv c.in-Some-Entered.entry_points c.in-Some-Entered.faults c.args.modules.now.entries c.add_entry_faults.new.modules.entries
    (c.in_ok-add_entry_faults-in-Some-Entered.ensures nv))
