pub mod Cards
pub mod Faults
pub mod Zones
pub mod Timing
pub mod Calls
pub mod Histories
pub mod Accounts
pub mod Worked
