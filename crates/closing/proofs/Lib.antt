pub mod Answers
pub mod RoundFound
