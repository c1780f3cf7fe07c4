pub mod Session
pub mod Lines
pub mod Run
pub mod Pieces
pub mod Calls
pub mod Claims
pub mod FrameCases
