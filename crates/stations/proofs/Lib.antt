pub mod Changes
pub mod Reports
pub mod Spans
pub mod Tables
pub mod Begins
