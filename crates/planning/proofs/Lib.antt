pub mod Walking
pub mod Hearing
pub mod Plans
