pub mod Starts
pub mod Plan
pub mod OnTheWay
