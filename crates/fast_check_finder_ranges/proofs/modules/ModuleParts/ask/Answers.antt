use Rattle.std.proofs.Common.{sym, append-nil}
use Rattle.std.specs.List.{flat_map}
use Rattle.fast_check_finder_ranges.specs.findings.Findings.{faulty_module}
use Rattle.fast_check_finder_ranges.specs.findings.Yields.{untyped_module}
use Rattle.fast_check_finder_ranges.specs.Answers.{faults_of}
use Rattle.fast_check_finder_ranges.proofs.Joined.{parts_more}
use Rattle.fast_check_finder_ranges.proofs.modules.ModuleParts.ask.Goals as goal

pub returns : goal.returns
returns c = λ nv t ys a.
    parts_more ys (faulty_module nv t untyped_module) c.args.self.now _ (sym (append-nil _)) (sym (append-nil _))
    (c.add_untyped.ensures (flat_map faults_of ys) a.faults) a
