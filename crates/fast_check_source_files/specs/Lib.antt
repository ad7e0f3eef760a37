pub mod Languages
