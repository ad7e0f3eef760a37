use Rattle.std.proofs.Common.{rules}
use Rattle.fast_check_tables_diagnostics.proofs.diagnostics.shown.return_type_hint.Goals as goal

pub returns-then-is_definitely_void_or_never : goal.returns-then-is_definitely_void_or_never
returns-then-is_definitely_void_or_never c = search rules

pub returns-then-is_async : goal.returns-then-is_async
returns-then-is_async c = search rules

pub returns-else-is_async : goal.returns-else-is_async
returns-else-is_async c = search rules
