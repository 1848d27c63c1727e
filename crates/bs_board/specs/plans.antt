-- The games of a plan, and its version.
pub mod Plan
pub mod Version
