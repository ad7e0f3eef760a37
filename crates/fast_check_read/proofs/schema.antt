pub mod Orders
pub mod Scan
