pub mod Tied
pub mod Placed
