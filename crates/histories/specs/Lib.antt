pub mod Clusters
pub mod Calls
pub mod Histories
pub mod Promises
