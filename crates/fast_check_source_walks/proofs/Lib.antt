pub mod Heights
mod Levels
