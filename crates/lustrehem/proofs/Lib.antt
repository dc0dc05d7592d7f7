pub mod Rehearses
