pub mod Failing
pub mod Lines
pub mod Written
pub mod inner
