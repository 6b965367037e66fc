pub mod Readings
pub mod Kept
pub mod Arrivals
pub mod Groups
pub mod Waiting
