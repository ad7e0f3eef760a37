pub mod Bools
pub mod Lists
pub mod Compared
pub mod Inserted
pub mod Reports
pub mod Collected
pub mod Diagnosed
pub mod Invented
