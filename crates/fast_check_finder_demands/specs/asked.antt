pub mod Demands
pub mod Account
pub mod Exports
pub mod State
pub mod Measure
pub mod Places
