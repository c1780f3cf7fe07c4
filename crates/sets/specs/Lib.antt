pub mod Inner
pub mod Walking
