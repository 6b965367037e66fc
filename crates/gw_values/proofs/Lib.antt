pub mod Evaluating
mod Tracing
