pub mod Distinct
pub mod Texts
pub mod boards
pub mod commands
pub mod plans
pub mod records
pub mod inner
