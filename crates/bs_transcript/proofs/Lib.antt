pub mod PartLines
pub mod Places
pub mod Sent
pub mod WrittenBytes
