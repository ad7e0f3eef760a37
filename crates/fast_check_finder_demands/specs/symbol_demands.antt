pub mod Demands
pub mod Decls
pub mod Rules
pub mod Passed
