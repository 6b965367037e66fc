pub mod Millionths
pub mod Range
pub mod Ratio
pub mod Roots
