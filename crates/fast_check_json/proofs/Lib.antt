pub mod InPlace
mod InOrder
mod Tables
