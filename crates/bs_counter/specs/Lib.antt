pub mod Keys
pub mod Missing
pub mod Outcomes
pub mod Tally
pub mod inner
