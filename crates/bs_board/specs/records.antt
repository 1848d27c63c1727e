-- The bytes of a board.
pub mod FitSnake
pub mod Kept
pub mod Layout
pub mod Record
pub mod Stepped
pub mod Writing
