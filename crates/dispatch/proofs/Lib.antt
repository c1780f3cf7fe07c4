pub mod Entries
pub mod Codes
