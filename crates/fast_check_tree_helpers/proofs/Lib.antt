mod Literals
mod Lower
mod Levels
pub mod SimpleTypes
pub mod InferredTypes
pub mod Returns
pub mod Named
pub mod BuildersMoved
pub mod GlobalCallsMoved
pub mod SimpleTypesMoved
pub mod InferredMoved
pub mod ReturnsMoved
pub mod NamedMoved
pub mod OptionalStart
