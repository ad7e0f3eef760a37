use Rattle.std.proofs.Common.{rules}
use Rattle.fast_check_tables_diagnostics.proofs.diagnostics.shown.return_type_info.Goals as goal

pub returns-then-not-is_definitely_void_or_never :
    goal.returns-then-not-is_definitely_void_or_never
returns-then-not-is_definitely_void_or_never c = search rules

pub returns : goal.returns
returns c = search rules
