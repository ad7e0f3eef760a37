mod Copied
pub mod Usable
