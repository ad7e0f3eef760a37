pub mod MediaType
