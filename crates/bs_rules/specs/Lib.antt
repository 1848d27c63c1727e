pub mod Collision
pub mod Elimination
pub mod Feeding
pub mod Hurting
pub mod Motion
pub mod Turn
