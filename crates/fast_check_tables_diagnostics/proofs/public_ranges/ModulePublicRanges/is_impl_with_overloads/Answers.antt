use Rattle.std.proofs.Common.{rules}
use Rattle.fast_check_tables_diagnostics.proofs.public_ranges.ModulePublicRanges.is_impl_with_overloads.Goals as goal

pub returns : goal.returns
returns c = search rules
