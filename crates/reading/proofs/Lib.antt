pub mod Progress
pub mod Known
