-- What private contracts cite, and no public one.
pub mod Joining
pub mod Recorded
pub mod View
