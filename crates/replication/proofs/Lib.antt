pub mod Steps
pub mod Grows
pub mod Begins
pub mod Refuses
