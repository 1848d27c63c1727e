pub mod FreeCells
pub mod GivenFood
pub mod MarkedCells
pub mod Minimum
pub mod NewFood
pub mod Rows
