pub use Rattle.fast_check_meaning_skeleton.proofs as skeleton_proofs
pub mod Kept
pub mod ImportExportCases
pub mod SourceCases
