pub mod ByRule
pub mod Namespaces
pub mod Removed
pub mod Transformed
