pub mod Gathering
pub mod Given
mod Graphs
mod Parted
