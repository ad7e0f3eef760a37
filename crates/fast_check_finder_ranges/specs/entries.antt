pub mod Entries
pub mod Joined
pub mod MemberEntries
pub mod Ordered
