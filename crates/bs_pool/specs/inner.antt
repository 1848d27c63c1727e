-- What private contracts cite, and no public one.
pub mod Accounts
pub mod AssemblyParts
pub mod FreeNumbers
pub mod Marks
pub mod PoolParts
pub mod Reservations
pub mod Whereabouts
