-- The contents of a command.
pub mod Orders
pub mod Setup
