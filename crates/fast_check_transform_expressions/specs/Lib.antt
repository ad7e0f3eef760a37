pub use Rattle.fast_check_transform_nodes.specs as nodes
pub mod Looked
