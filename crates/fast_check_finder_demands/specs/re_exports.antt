pub mod Modules
pub mod Roots
pub mod ReExports
pub mod Origins
