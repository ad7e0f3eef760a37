pub use Rattle.fast_check_transform_statements.specs.skeleton as skeleton
pub mod Gathers
pub mod PartAnswers
pub mod Transform
pub mod transform_faults
