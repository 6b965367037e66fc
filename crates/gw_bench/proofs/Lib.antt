pub mod Fronts
pub mod Meets
pub mod Refusals
pub mod GrowLaws
pub mod Answered
