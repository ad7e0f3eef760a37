mod Firsts
mod Names
mod Behind
mod Named
pub mod OwnRanges
