pub mod Keeps
pub mod Rows
