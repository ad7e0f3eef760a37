pub mod Beginnings
pub mod Begun
pub mod First
pub mod Found
pub mod Longest
pub mod MembersFound
pub mod Rows
