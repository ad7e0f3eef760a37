use Rattle.std.proofs.Common.{sym, append-nil}
use Rattle.std.specs.List.{flat_map}
use Rattle.std.proofs.lemmas.Result.{on_ok_weaker}
use Rattle.fast_check_finder_ranges.specs.findings.Findings.{faulty_module, entry_fault}
use Rattle.fast_check_finder_ranges.specs.Answers.{faults_of}
use Rattle.fast_check_finder_ranges.proofs.Joined.{parts_more}
use Rattle.fast_check_finder_ranges.proofs.modules.ModuleParts.enter.Goals as goal

pub returns : goal.returns
returns c = on_ok_weaker c.add_entry_fault.result (λ adds nv t ys a.
    parts_more ys (faulty_module nv t (entry_fault c.args.fault)) c.args.self.now _ (sym (append-nil _)) (sym (append-nil _))
    (adds (flat_map faults_of ys) a.faults) a)
    c.add_entry_fault.ensures
