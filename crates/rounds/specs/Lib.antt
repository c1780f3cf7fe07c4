pub mod Round
pub mod Heard
