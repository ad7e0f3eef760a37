pub mod Call
pub mod Refusal
pub mod Request
pub mod Input
pub mod Opened
pub mod Run
pub mod build_requests
