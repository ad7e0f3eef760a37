pub use Rattle.fast_check_finder_loop.specs as finder
pub use Rattle.fast_check_build_answers.specs as answers
pub mod Found
pub mod Build
pub mod Lent
pub mod Finder
