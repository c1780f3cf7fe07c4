pub mod Codes
pub mod Dispatch
