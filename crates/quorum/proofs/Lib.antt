mod Members
mod Validity
pub mod Promise
mod Examples
