pub use Rattle.fast_check_program_requests.specs.Refusal
pub use Rattle.fast_check_program_requests.specs.Run
pub mod Request
pub mod Input
pub mod Line
pub mod Pair
pub mod Second
