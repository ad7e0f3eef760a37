mod Pruned
mod Removed
