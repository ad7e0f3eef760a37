pub mod Lists
pub mod Fronts
pub mod Soundness
pub mod Turns
pub mod Keeps
pub mod MorePackages
pub mod Sets
