use Rattle.std.proofs.Common.{rules}
use Rattle.fast_check_tables_diagnostics.proofs.diagnostics.range.FastCheckDiagnosticRangeHash.hash.Goals as goal

pub returns : goal.returns
returns g c = search rules
