pub mod Rigging
pub mod Refusals
pub mod Steps
pub mod Closing
