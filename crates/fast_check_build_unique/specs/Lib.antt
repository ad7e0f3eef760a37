pub mod Moved
pub mod Lockstep
pub mod Modules
pub mod Builds
pub mod Example
