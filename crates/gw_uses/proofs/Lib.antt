pub mod ClockLaws
pub mod LeastLaws
pub mod FirstLaws
pub mod AskLaws
pub mod NoteLaws
pub mod UseLaws
pub mod Halves
pub mod Copies
