pub mod Inserting
pub mod Output
mod Keeping
