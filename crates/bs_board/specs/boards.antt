-- Cells, boards and their snakes.
pub mod Cell
pub mod Hazards
pub mod Legal
pub mod Lending
pub mod Over
pub mod Wrap
