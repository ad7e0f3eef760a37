use Rattle.std.proofs.Common.{rules}
use Rattle.fast_check_tables_diagnostics.proofs.parsed_source.tables.media_type.MediaType.is_declaration.Goals as goal

pub returns-in-Dts : goal.returns-in-Dts
returns-in-Dts c = search rules

pub returns-in_default : goal.returns-in_default
returns-in_default c = search rules
