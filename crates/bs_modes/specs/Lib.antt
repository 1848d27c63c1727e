pub mod FirstBoard
pub mod Growth
