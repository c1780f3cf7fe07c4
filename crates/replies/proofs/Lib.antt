pub mod ReplyLine
pub mod Writing
