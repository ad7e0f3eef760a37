pub mod Reading
pub mod Fields
pub mod Places
pub mod Order
pub mod Words
pub mod Variants
pub mod Counts
