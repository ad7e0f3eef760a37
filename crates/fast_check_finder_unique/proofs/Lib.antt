pub mod Alike
pub mod Edited
pub mod Answered
pub mod OneAnswer
pub mod Fresh
pub mod Itself
pub mod Example
