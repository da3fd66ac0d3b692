pub mod Slots
pub mod Zoned
pub mod Entering
pub mod Telling
