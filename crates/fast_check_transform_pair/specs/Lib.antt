pub mod Transformer
pub mod Transformed
pub mod Compared
pub mod Worlds
pub mod Apart
pub mod ParsedExample
pub mod Examples
