pub mod Faults
pub mod Diagnostics
pub mod Yields
pub mod Findings
pub mod Found
pub mod ModuleFaults
