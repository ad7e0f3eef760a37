pub mod Adding
pub mod Items
mod Members
mod VariantNames
mod Arrays
mod DiagnosticViews
