pub mod Words
pub mod Codes
pub mod Trips
pub mod Runs
pub mod Wording
pub mod Distinct
