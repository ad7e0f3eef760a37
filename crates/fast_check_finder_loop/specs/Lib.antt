pub use Rattle.fast_check_finder_demands.specs as demands
pub use Rattle.fast_check_finder_ranges.specs as ranges
pub mod Account
pub mod Asked
pub mod NameOrder
pub mod Finder
pub mod Once
pub mod Packages
pub mod Search
pub mod Turn
pub mod Measure
pub mod Rules
pub mod Yields
pub mod Own
pub mod Lent
pub mod Refusals
pub mod Universe
pub mod Reach
