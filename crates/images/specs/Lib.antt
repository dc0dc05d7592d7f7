pub mod Causes
pub mod Diagnoses
pub mod Turns
pub mod Laws
pub mod Shown
