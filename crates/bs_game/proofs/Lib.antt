pub mod Acceptance
pub mod AnswerLaw
pub mod Courses
pub mod Games
pub mod Joining
pub mod KeptTurns
pub mod Recorded
