pub mod Walks
pub mod Seen
