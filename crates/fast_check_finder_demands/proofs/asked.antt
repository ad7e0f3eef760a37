pub mod Asks
mod ExportsAsked
pub mod Maps
pub mod Asking
pub mod Taken
pub mod Single
pub mod Ranks
