pub mod Conversing
pub mod FileConversing
pub mod Mapped
pub mod Reading
pub mod Shared
pub mod Spacing
pub mod Usual
