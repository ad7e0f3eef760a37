mod OwnRanges
mod Packages
pub mod Built
pub mod Said
pub mod LentBack
