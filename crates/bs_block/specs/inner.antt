-- What private contracts cite, and no public one.
pub mod BlockLayout
pub mod Bytes
pub mod Joins
pub mod Region
pub mod RegionLends
