pub mod CountLaws
pub mod DelayLaws
pub mod LetIn
pub mod ChainLaws
pub mod EventLaws
pub mod BlockLaws
pub mod Leasts
pub mod FutureLaws
pub mod Beside
mod LinkedLaws
pub mod AnewLaws
