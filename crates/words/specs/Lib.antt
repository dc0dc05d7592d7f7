pub mod Refusals
pub mod Words
pub mod Readings
pub mod Shown
pub mod Writes
