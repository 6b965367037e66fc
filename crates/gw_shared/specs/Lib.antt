pub mod Forms
pub mod Growing
pub mod Lends
pub mod Lists
pub mod Runs
pub mod Values
