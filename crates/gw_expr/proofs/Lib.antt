mod Constants
mod Curves
mod Distances
mod Expressions
mod Parts
mod Worlds
pub mod Waiting
