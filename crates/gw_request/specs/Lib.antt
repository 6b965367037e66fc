pub mod Words
pub mod Numbers
pub mod Commands
pub mod Arguments
pub mod Requests
pub mod Asking
