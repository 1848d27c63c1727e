pub mod Acceptable
pub mod Acts
pub mod Causes
pub mod Run
pub mod Sharing
pub mod inner
