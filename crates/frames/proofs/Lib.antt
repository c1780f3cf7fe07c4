pub mod Digits
pub mod FrameLines
pub mod Reading
pub mod CallFrames
mod Examples
