use Rattle.std.proofs.Common.{rules}
use Rattle.fast_check_tables_diagnostics.proofs.parsed_source.tables.media_type.MediaType.is_typed.Goals as goal

pub returns-then-matches : goal.returns-then-matches
returns-then-matches c = search rules

pub returns-else-matches : goal.returns-else-matches
returns-else-matches c = search rules
