mod Compared
pub mod Lists
pub mod Same
pub mod Parts
pub mod Inside
pub mod Added
pub mod Accounted
pub mod Falls
pub mod Turns
pub mod OwnYields
pub mod Refused
mod Paths
mod Among
mod Named
mod Written
pub mod Reach
pub mod Stored
pub mod Homes
pub mod Homed
pub mod OfPackage
pub mod Joins
pub mod Collected
pub mod Once
pub mod Steps
pub mod Places
pub mod SymbolsAsked
pub mod Gained
pub mod Waits
pub mod Followed
pub mod Placed
pub mod Loop
pub mod Whole
pub mod Reported
pub mod Entered
pub mod Taken
mod Popped
pub mod Owners
pub mod PlaceKeys
pub mod Within
pub mod OwnAsked
