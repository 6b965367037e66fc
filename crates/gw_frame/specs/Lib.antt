pub mod Alike
pub mod Reads
pub mod Seeds
pub mod Moved
pub mod BlockIds
pub mod Positions
pub mod Renamed
pub use Rattle.gw_meaning.specs.Step
