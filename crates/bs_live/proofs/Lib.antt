pub mod Blocks
pub mod Boards
pub mod Lines
pub mod Newest
