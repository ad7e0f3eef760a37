pub mod Cache
pub mod CachedPackages
