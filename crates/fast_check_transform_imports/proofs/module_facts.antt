pub mod Related
pub mod Listed
