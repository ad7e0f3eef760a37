pub mod Promises
mod Rules
