pub mod Words
pub mod Names
pub mod Heads
pub mod Keys
