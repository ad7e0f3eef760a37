pub mod Known
pub mod Heads
