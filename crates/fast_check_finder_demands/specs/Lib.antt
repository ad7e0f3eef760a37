pub use Rattle.fast_check_tables_symbols.specs as symbols
pub mod Yields
pub mod Account
pub mod facts
pub mod name_demands
pub mod symbol_demands
pub mod re_exports
pub mod asked
