pub mod Package
pub mod PackageOrder
pub mod Listed
pub mod First
pub mod Members
pub mod MembersIn
pub mod Packages
pub mod Texts
