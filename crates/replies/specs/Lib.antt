pub mod ReplyLine
