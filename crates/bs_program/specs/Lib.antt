pub mod Asked
pub mod Lines
pub mod Outcome
pub mod Streams
pub mod inner
