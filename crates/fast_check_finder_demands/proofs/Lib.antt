pub mod Adds
pub mod Elements
pub mod Each
pub mod Own
mod Filters
pub mod Yielded
pub mod Aliased
