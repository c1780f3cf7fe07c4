pub mod Soundness
pub mod Laying
