-- What private contracts cite, and no public one.
pub mod Cut
pub mod Faults
pub mod File
pub mod Hosted
pub mod Laws
pub mod Live
pub mod LiveAnswers
pub mod LiveFaults
pub mod LiveHost
pub mod OpenStays
pub mod Parsed
pub mod Routing
pub mod Transcript
