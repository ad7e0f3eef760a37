pub mod Groups
pub mod Objects
pub mod ModuleObjects
pub mod References
pub mod Expandos
pub mod Assignments
pub mod Merged
pub mod FirstPlaces
