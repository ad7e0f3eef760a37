pub mod SameSources
pub mod SameDiagnosed
pub mod Pairs
pub mod Apart
pub mod ExampleItems
pub mod ExampleModules
pub mod ParsedExample
pub mod Examples
