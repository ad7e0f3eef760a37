pub mod Each
mod Members
mod Pairs
mod Words
