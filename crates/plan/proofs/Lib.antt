pub mod Starts
pub mod Plan
mod OnTheWay
