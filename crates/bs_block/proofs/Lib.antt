pub mod BlockBytes
pub mod RegionSharing
pub mod RegionWalks
pub mod ReturnSteps
pub mod Rounded
pub mod Runs
pub mod ThreadSafety
