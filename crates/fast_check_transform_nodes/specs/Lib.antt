pub mod Bindings
pub mod Gives
pub mod Rows
pub mod Typed
