-- What private contracts cite, and no public one.
pub mod Blocks
pub mod Entries
pub mod HeapLayout
pub mod Lent
pub mod OwnedBlocks
pub mod Renaming
