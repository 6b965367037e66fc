pub mod Same
pub mod SameVersions
pub mod Touching
pub mod Touched
pub mod Touches
pub mod TouchedAlike
pub use Rattle.gw_meaning.specs.Listing
pub use Rattle.gw_record.specs.Tape
