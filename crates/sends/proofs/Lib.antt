pub mod Deltas
pub mod Fulls
pub mod Ways
