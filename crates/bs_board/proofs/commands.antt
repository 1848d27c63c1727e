-- Lemmas on the contents of commands.
pub mod Ascending
pub mod FitSetup
pub mod PackedMoves
pub mod SameValues
