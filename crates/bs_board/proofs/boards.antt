-- Lemmas on boards.
pub mod CellsOnBoard
