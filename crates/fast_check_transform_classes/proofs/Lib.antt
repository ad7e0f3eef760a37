pub mod Nothing
pub mod PropertyCases
pub mod Constructed
pub mod MembersKept
