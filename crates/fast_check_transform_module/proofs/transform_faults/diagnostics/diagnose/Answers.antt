use Rattle.std.proofs.Common.{rules}
use Rattle.fast_check_transform_module.proofs.transform_faults.diagnostics.diagnose.Goals as goal

pub returns : goal.returns
returns c = search rules
