pub mod Hex
pub mod Frame
pub mod Reading
pub mod Text
