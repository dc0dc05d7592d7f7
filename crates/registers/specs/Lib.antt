pub mod Values
pub mod Bits
pub mod Members
pub mod Sets
pub mod Packs
pub mod LevelLaws
