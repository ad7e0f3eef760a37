pub use Rattle.fast_check_program_requests.specs.Refusal
pub use Rattle.fast_check_program_requests.specs.Run
pub use Rattle.fast_check_program_requests.specs.build_requests.Input
pub use Rattle.fast_check_program_requests.specs.build_requests.Request
pub use Rattle.fast_check_print.specs.Answers
pub mod Build
pub mod Line
