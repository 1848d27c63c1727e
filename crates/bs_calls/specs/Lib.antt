pub mod BySeat
pub mod Records
pub mod Setups
pub mod inner
