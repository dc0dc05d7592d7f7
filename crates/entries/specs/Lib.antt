pub mod Sixteen
pub mod Rows
pub mod Entries
pub mod Fits
pub mod Kinds
