mod Crossing
mod Kept
mod Quiet
