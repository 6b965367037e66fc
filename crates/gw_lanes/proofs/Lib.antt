pub mod Classes
pub mod Firsts
pub mod Folds
