pub mod Mailboxes
pub mod Overflows
pub mod Parts
