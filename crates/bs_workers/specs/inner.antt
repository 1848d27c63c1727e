-- What private contracts cite, and no public one.
pub mod Apart
pub mod Faults
pub mod Making
pub mod Stays
pub mod Stops
pub mod PlayedRows
