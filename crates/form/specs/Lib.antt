pub mod Sides
pub mod Form
