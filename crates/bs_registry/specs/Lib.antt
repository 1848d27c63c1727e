pub mod Blocks
pub mod Lends
pub mod OpenStays
pub mod Registry
pub mod Stays
pub mod inner
