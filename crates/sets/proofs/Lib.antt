pub mod Folds
mod Words
pub mod Sides
pub mod Rising
