pub mod Points
pub mod Settled
pub mod OneApi
pub mod Answers
pub mod Edits
pub mod Carried
pub mod Example
