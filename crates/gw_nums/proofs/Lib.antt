mod Quotients
pub mod Roots
