pub mod Parting
pub mod Steps
pub mod Uses
pub mod Asks
pub use Rattle.gw_meaning.specs.Reads
