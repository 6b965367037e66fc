pub mod Failures
pub mod Line
pub mod Model
pub mod Reading
pub mod StdIo
pub mod Whole
