pub mod Fronts
pub mod Growing
pub mod Telling
pub mod Faults
pub mod Lost
