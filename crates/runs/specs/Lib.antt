pub mod Faults
pub mod Events
pub mod Runs
pub mod Readers
pub mod Lists
