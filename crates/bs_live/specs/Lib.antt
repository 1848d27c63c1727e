pub mod Game
pub mod Stay
pub mod inner
