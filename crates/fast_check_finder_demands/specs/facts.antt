pub mod GraphFacts
pub mod Followers
