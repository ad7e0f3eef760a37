pub mod Hash
pub mod Memory
