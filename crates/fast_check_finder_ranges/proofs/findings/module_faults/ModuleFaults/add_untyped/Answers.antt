use Rattle.std.proofs.Common.{refl}
use Rattle.fast_check_finder_ranges.proofs.findings.Collected.{adds_untyped}
use Rattle.fast_check_finder_ranges.proofs.findings.module_faults.ModuleFaults.add_untyped.Goals as goal

pub returns : goal.returns
returns c = adds_untyped c.args.self.now _ refl refl
