pub mod Tests
pub mod Listing
pub mod Bytes
pub mod Parts
pub mod Writing
