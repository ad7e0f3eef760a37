pub use Rattle.fast_check_transform_imports.proofs.skeleton_proofs as skeleton_proofs
pub use Rattle.fast_check_transform_classes.proofs as class_proofs
pub mod AssignmentCases
pub mod Declared
pub mod Joined
pub mod PublicCases
pub mod Blocks
