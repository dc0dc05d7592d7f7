pub mod Joins
pub mod Deltas
pub mod Orders
