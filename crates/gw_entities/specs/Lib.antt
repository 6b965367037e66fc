pub mod Keeping
pub mod KeySets
pub mod Owned
pub mod Values
