-- Lemmas on the bytes of a board.
pub mod BoardRecord
pub mod Fields
pub mod FitSnake
pub mod HazardRecord
pub mod KeptRecord
pub mod LayoutBytes
pub mod Lengths
pub mod Living
pub mod Parts
pub mod Longest
pub mod Repeats
pub mod SnakeRecord
pub mod StepRecord
pub mod Writable
