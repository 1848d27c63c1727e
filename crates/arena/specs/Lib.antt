pub mod Outcome
pub mod Words
pub mod inner
