pub mod Rows
pub mod Guards
pub mod Table
pub mod Spelled
pub mod Lists
pub mod Written
