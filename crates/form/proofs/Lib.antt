pub mod Places
pub mod Sides
pub mod Smallest
pub mod Laws
pub mod Own
