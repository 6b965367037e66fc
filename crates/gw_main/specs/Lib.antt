pub mod Complaints
pub mod Sharing
pub mod Conversations
pub mod Files
pub mod Programs
pub mod Words
