pub mod BlockLends
pub mod Bytes
pub mod Ownership
pub mod Returns
pub mod Rounding
pub mod inner
