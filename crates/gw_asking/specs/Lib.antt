pub use Rattle.gw_meaning.specs.Listing
pub use Rattle.gw_meaning.specs.Machine
pub use Rattle.gw_meaning.specs.Questions
pub use Rattle.gw_meaning.specs.Evaluation
pub use Rattle.gw_meaning.specs.Step
pub mod Noted
pub mod Deciding
