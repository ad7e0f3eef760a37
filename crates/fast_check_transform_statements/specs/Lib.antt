pub use Rattle.fast_check_meaning_expandos.specs as expandos
pub use Rattle.fast_check_transform_imports.specs.nodes as nodes
pub use Rattle.fast_check_transform_imports.specs.skeleton as skeleton
pub mod PartAnswers
pub mod Assigned
pub mod transform_declarations
