pub use Rattle.fast_check_meaning_skeleton.specs as skeleton
pub use Rattle.fast_check_transform_nodes.specs as nodes
pub mod ImportsExports
pub mod Relative
pub mod StaticSources
pub mod module_facts
