pub mod Modules
pub mod Resolutions
pub mod Graph
pub mod ModuleNames
pub mod Root
