pub mod Input
pub mod ModuleParts
pub mod Provider
pub mod Request
pub mod Modules
pub mod Root
