-- What private contracts cite, and no public one.
pub mod Advancing
pub mod Collisions
pub mod Crossing
pub mod Eliminations
pub mod Food
pub mod FreeCells
pub mod Hurting
pub mod Listing
pub mod Loading
pub mod Saving
pub mod Seats
pub mod Showing
pub mod Starting
pub mod Steps
pub mod Turns
