pub mod Sources
pub mod ModuleFacts
pub mod Kept
