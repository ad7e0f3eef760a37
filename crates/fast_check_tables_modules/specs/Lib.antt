pub use Rattle.fast_check_tables_diagnostics.specs.parsed_source.MediaType
pub use Rattle.fast_check_tables_symbols.specs as symbols
pub use Rattle.fast_check_tables_diagnostics.specs as diagnostics
pub mod Expandos
pub mod FitProgram
pub mod EsModule
