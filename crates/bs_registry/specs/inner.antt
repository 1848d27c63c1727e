-- What private contracts cite, and no public one.
pub mod OpenStays
