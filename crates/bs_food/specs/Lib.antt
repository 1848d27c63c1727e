pub mod Free
pub mod Given
pub mod Marks
pub mod Spawning
pub mod inner
