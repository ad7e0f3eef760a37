pub mod Lookup
pub mod Order
pub mod Rows
pub mod Schema
