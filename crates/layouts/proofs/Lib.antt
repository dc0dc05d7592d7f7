pub mod Calls
pub mod Rows
pub mod PageBytes
pub mod PageLists
pub mod Mounts
pub mod Images
pub mod Worked
