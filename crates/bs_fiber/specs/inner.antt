-- What private contracts cite, and no public one.
pub mod Frames
pub mod Moving
pub mod Output
pub mod Work
