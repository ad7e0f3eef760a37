pub mod Comments
pub mod Each
pub mod Pieces
pub mod Reading
pub mod schema
