pub mod Scans
pub mod Turns
pub mod Fills
