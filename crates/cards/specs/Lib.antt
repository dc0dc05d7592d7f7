pub mod Verdicts
pub mod Cards
pub mod Examples
