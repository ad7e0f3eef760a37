pub use Rattle.fast_check_program_requests.specs.Refusal
pub mod Commands
pub mod build_command
pub mod pair_command
