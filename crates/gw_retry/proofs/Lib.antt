mod Things
mod Sifted
mod Kept
mod Ordered
mod Grouped
mod Waiters
