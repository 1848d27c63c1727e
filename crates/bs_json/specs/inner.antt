-- What private contracts cite, and no public one.
pub mod BoardText
pub mod Compact
pub mod Maps
pub mod Minified
pub mod Names
pub mod Replies
pub mod Sorted
pub mod Writing
