pub mod Answers
pub mod Parts
pub mod entries
pub mod findings
