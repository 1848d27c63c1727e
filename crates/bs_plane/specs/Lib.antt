pub mod Following
pub mod Food
pub mod Onward
pub mod Plane
pub mod Running
pub mod Turn
pub mod Written
pub mod inner
