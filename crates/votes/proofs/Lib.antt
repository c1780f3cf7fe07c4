pub mod Laws
pub mod Listing
mod Sides
pub mod Claims
mod Examples
