pub mod Found
pub mod NamedOnce
pub mod OpenStays
pub mod Planned
pub mod Rows
