pub mod InUpperCase
pub mod SameHeads
pub mod HeadOrder
