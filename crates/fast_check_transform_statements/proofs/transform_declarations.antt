pub mod ClassCases
pub mod DefaultCases
pub mod PublicClasses
