pub use Rattle.gw_meaning.specs.Machine
pub use Rattle.gw_meaning.specs.Changes
pub use Rattle.gw_meaning.specs.Step
pub mod Chains
pub mod Blocks
pub mod Delays
pub mod UserChains
