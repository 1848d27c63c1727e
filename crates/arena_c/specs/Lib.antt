pub mod Layout
pub mod Loading
pub mod Slots
pub mod Status
