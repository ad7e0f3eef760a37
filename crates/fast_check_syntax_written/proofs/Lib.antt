pub mod Clauses
pub mod Levels
pub mod Lines
pub mod Passing
pub mod Sequences
