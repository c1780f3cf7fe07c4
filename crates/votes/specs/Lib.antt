pub mod Votes
pub mod Claims
