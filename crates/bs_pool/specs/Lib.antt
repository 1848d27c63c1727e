pub mod Assembly
pub mod DrawAnswer
pub mod Ledger
pub mod OwnedLends
pub mod Reservations
pub mod ReserveAnswer
pub mod Woven
pub mod inner
