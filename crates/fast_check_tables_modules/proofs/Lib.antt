pub use Rattle.fast_check_tables_symbols.proofs as symbol_proofs
pub mod ExpandosOut
pub mod FaultsFound
