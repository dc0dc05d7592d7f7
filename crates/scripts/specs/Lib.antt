pub mod Numbers
pub mod Keywords
pub mod Tokens
pub mod Readings
pub mod Parts
pub mod Grammar
pub mod Shown
pub mod Laws
