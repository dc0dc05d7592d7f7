pub mod Walks
pub mod Masks
pub mod Writes
pub mod Resumes
pub mod Forms
