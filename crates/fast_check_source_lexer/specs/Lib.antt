pub mod Gaps
pub mod Jsx
pub mod Next
