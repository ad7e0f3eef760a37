pub mod Partners
pub mod Moved
pub mod Induction
pub mod Same
pub mod Made
pub mod DescentMoved
pub mod Leaves
pub mod Tests
