pub mod Arrows
pub mod Behind
pub mod Chains
pub mod Heights
pub mod Looked
