pub mod Chains
mod Destinations
pub mod Limits
pub mod Programs
pub mod Texts
pub mod Traces
mod Waiting
