pub mod Seen
pub mod Symbols
pub mod Tables
pub mod graph
