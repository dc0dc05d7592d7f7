pub mod Growth
pub mod Names
pub mod Digits
pub mod Cuts
pub mod Puts
pub mod Prints
pub mod Back
pub mod Ranges
