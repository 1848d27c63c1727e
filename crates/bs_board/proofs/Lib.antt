pub mod Chains
pub mod Distinct
pub mod Seen
pub mod Utf8
