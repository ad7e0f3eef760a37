pub mod Gathered
pub mod Graph
pub mod Modules
pub mod Reads
pub mod Workspace
