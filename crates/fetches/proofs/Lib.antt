pub mod Raises
pub mod Hears
pub mod Lifts
