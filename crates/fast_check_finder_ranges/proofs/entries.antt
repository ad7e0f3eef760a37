mod First
pub mod Passed
mod Keys
mod Once
mod Named
mod Ordered
