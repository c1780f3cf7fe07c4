pub mod Writer
pub mod StandardForm
pub mod Spellings
