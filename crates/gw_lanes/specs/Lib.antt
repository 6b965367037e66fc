pub mod Counts
pub mod FirstAt
pub mod Least
