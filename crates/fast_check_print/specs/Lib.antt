pub mod Comments
pub mod Pieces
pub mod Trees
pub mod Writing
pub mod Answer
pub mod Answers
pub mod Diagnostics
