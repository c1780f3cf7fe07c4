pub mod Forming
