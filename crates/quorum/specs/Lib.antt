pub mod Sets
pub mod Configurations
pub mod Promise
