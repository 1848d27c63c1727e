pub mod Answers
pub mod Rest
