-- What private contracts cite, and no public one.
pub mod Decoder
pub mod Ids
pub mod Kept
pub mod Orders
pub mod Packed
pub mod Plan
pub mod Setup
pub mod Writing
