pub mod Courses
pub mod Deciding
pub mod StepLaws
