pub mod Lists
pub mod Kept
pub mod Telling
pub mod SuperCalls
mod References
