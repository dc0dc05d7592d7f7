pub mod Heads
pub mod Laws
pub mod Steps
pub mod Packs
pub mod Ways
