pub mod Answered
pub mod InSlots
pub mod LoadedRecord
pub mod SlotPlayed
