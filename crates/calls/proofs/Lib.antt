pub mod Committing
pub mod Figures
