-- What private contracts cite, and no public one.
pub mod Between
pub mod Buffer
pub mod Parts
