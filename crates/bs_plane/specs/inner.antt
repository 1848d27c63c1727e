-- What private contracts cite, and no public one.
pub mod Answered
pub mod Cache
pub mod Food
pub mod Onward
pub mod Plane
pub mod Turn
pub mod Written
