pub mod Splitting
pub mod Stretches
